-- Kinds 16 to 19: a Release goes up and its ReleaseAck comes down.
use Rattle.std.specs.Prelude.{Bool, not, ◌&&◌, ℕ, eqb}
use Rattle.words.specs.Vocab.{choose}
use Rattle.rules.specs.Codes.{rights_n, none, await, let_go, leaving, no_child, empty, release, release_data, release_ack}
use Rattle.rules.specs.Messages.{is_release}
use Rattle.rules.specs.Scenes.{◌▷◌, fills_c, fills_d, empties_c, empties_d, rights_fall, takes_data, entry_becomes, leaves_to_probe, phase_becomes, becomes_idle, notes}
use Rattle.rules.specs.Probe.{carried, data_fits}
use Rattle.rules.specs.declared.Scene.{Scene}

-- 16 send Release | LetGo, release idle, C empty, entries None, not N
unfoldable pub send_release_needs : Scene → Bool
send_release_needs v =
    eqb v.node.phase let_go && eqb v.node.release no_child && eqb v.link.c empty && v.bare && not (eqb v.rights rights_n)

-- "ReleaseData exactly if dirty"
unfoldable pub release_for : Bool → ℕ
release_for d = choose d release_data release

-- | ReleaseData exactly if dirty; rights N; Leaving
unfoldable pub send_release_does : Scene → Scene
send_release_does v =
    v ▷ fills_c (release_for v.node.dirty) 0 (carried v.node.dirty v.node.value) ▷ rights_fall rights_n ▷ phase_becomes leaving

-- "not in Await for this child"
unfoldable pub awaits : ℕ → ℕ → ℕ → Bool
awaits ph q k = eqb ph await && eqb q k

-- 17 take Release | C holds one, release idle, entry not None, not in Await for this child; data only from Trunk
unfoldable pub take_release_needs : Scene → ℕ → Bool
take_release_needs v k =
    is_release v.link.c && eqb v.node.release no_child && not (eqb v.entry none) && not (awaits v.node.phase v.node.requester k)
    && data_fits v.link.c v.entry

-- | empties C; entry None; child leaves to-probe, not pending; data: value set, dirty; child noted; settle
unfoldable pub take_release_does : Scene → ℕ → Scene
take_release_does v k = v ▷ empties_c ▷ entry_becomes none ▷ leaves_to_probe ▷ takes_data v.link ▷ notes k

-- 18 send ReleaseAck | release open, child's D empty
unfoldable pub send_release_ack_needs : Scene → Bool
send_release_ack_needs v = not (eqb v.node.release no_child) && eqb v.link.d empty

-- | closes
unfoldable pub send_release_ack_does : Scene → Scene
send_release_ack_does v = v ▷ fills_d release_ack 0 ▷ notes no_child

-- 19 take ReleaseAck | Leaving, D holds it
unfoldable pub take_release_ack_needs : Scene → Bool
take_release_ack_needs v = eqb v.node.phase leaving && eqb v.link.d release_ack

-- | empties D; Idle
unfoldable pub take_release_ack_does : Scene → Scene
take_release_ack_does v = v ▷ empties_d ▷ becomes_idle
