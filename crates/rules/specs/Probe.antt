-- Kinds 8 to 11: a Probe goes down and its ProbeAck comes up.
use Rattle.std.specs.Prelude.{Bool, true, false, not, ◌&&◌, ◌||◌, ℕ, eqb, leb}
use Rattle.words.specs.Vocab.{choose}
use Rattle.rules.specs.Codes.{rights_n, rights_b, none, trunk, leaving, cap_b, cap_n, no_child, empty, probe_ack, probe_ack_data}
use Rattle.rules.specs.Cases.{per_phase, per_purpose, per_cap}
use Rattle.rules.specs.Messages.{is_probe_ack, from_trunk}
use Rattle.rules.specs.Scenes.{◌▷◌, fills_b, fills_c, empties_b, empties_c, rights_fall, becomes_clean, takes_data, entry_becomes, leaves_to_probe, enters_pending, leaves_pending, opens, closes}
use Rattle.rules.specs.declared.Scene.{Scene}

-- 8 send Probe | child in to-probe, its B empty
unfoldable pub send_probe_needs : Scene → Bool
send_probe_needs v = v.to_probe && eqb v.link.b empty

-- "cap: the open probe's, else B for load and N otherwise"; a Probe has the code of its cap
unfoldable pub cap_for : Bool → ℕ → ℕ → ℕ
cap_for opened c pu = choose opened c (per_purpose record { none = cap_n; load = cap_b; store = cap_n; evict = cap_n; outside = cap_n } pu)

-- | cap: the open probe's, else B for load and N otherwise; moves child to pending
unfoldable pub send_probe_does : Scene → Scene
send_probe_does v = v ▷ fills_b (cap_for v.node.probe v.node.cap v.node.purpose) ▷ leaves_to_probe ▷ enters_pending

-- "main Idle, Wait or Leaving"
unfoldable pub serves_probes : ℕ → Bool
serves_probes = per_phase record { idle = true; clear = false; ask = false; wait = true; confirm = false; give = false; await = false; let_go = false; leaving = true; outside = false }

-- 9 take Probe | B full, probe idle, sets empty, main Idle, Wait or Leaving
unfoldable pub take_probe_needs : Scene → Bool
take_probe_needs v = not (eqb v.link.b empty) && not v.node.probe && v.still && serves_probes v.node.phase

-- | empties B, opens; to-probe: Trunk entries for cap B, all not None for cap N
unfoldable pub take_probe_does : Scene → Scene
take_probe_does v = v ▷ empties_b ▷ opens v.link.b

-- "Trunk entries for cap B, all not None for cap N"
unfoldable pub probed_by : ℕ → ℕ → Bool
probed_by c e = per_cap record { none = false; cap_b = eqb e trunk; cap_n = not (eqb e none); outside = false } c

-- "cap N: all entries None; cap B: none Trunk"
unfoldable pub cap_met : ℕ → Bool → Bool → Bool
cap_met c bare someTrunk = per_cap record { none = false; cap_b = not someTrunk; cap_n = bare; outside = false } c

-- 10 send ProbeAck | probe open, sets empty, release idle, main not Leaving, C empty; cap N: all entries None; cap B: none Trunk
unfoldable pub send_probe_ack_needs : Scene → Bool
send_probe_ack_needs v =
    v.node.probe && v.still && eqb v.node.release no_child && not (eqb v.node.phase leaving) && eqb v.link.c empty
    && cap_met v.node.cap v.bare v.trunk

-- the rights that a cap leaves at most
unfoldable pub cap_rights : ℕ → ℕ
cap_rights = per_cap record { none = rights_n; cap_b = rights_b; cap_n = rights_n; outside = rights_n }

-- "rights fall to the cap if above it"
unfoldable pub fallen : ℕ → ℕ → ℕ
fallen c r = choose (leb r (cap_rights c)) r (cap_rights c)

-- "carries the value exactly if dirty"
unfoldable pub carried : Bool → ℕ → ℕ
carried d x = choose d x 0

unfoldable pub probe_ack_for : Bool → ℕ
probe_ack_for d = choose d probe_ack_data probe_ack

-- | rights fall to the cap if above it; kept = new rights; carries the value exactly if dirty; becomes clean; closes
unfoldable pub send_probe_ack_does : Scene → Scene
send_probe_ack_does v =
    v ▷ rights_fall (fallen v.node.cap v.rights)
    ▷ fills_c (probe_ack_for v.node.dirty) (fallen v.node.cap v.rights) (carried v.node.dirty v.node.value)
    ▷ becomes_clean ▷ closes

-- "data only from a Trunk entry"
unfoldable pub data_fits : ℕ → ℕ → Bool
data_fits c e = not (from_trunk c) || eqb e trunk

-- 11 take ProbeAck | C holds one, child pending, kept not above entry; data only from a Trunk entry
unfoldable pub take_probe_ack_needs : Scene → Bool
take_probe_ack_needs v = is_probe_ack v.link.c && v.pending && leb v.link.kept v.entry && data_fits v.link.c v.entry

-- | empties C; entry becomes kept; data: value set, dirty; leaves pending; settle
unfoldable pub take_probe_ack_does : Scene → Scene
take_probe_ack_does v = v ▷ empties_c ▷ entry_becomes v.link.kept ▷ takes_data v.link ▷ leaves_pending
