-- Kinds 12 to 15: a Grant goes down and its GrantAck comes up.
use Rattle.std.specs.Prelude.{Bool, false, not, ◌&&◌, ◌||◌, ℕ, eqb}
use Rattle.words.specs.Vocab.{choose}
use Rattle.rules.specs.Codes.{rights_n, rights_b, tip, branch, trunk, name_tt, wait, confirm, give, await, empty, grant_t, grant_data_t, grant_data_b, grant_ack, shared, sole}
use Rattle.rules.specs.Cases.{per_purpose}
use Rattle.rules.specs.With.{with_phase, with_node}
use Rattle.rules.specs.Names.{readable_name}
use Rattle.rules.specs.Messages.{carries_down, granted_rights, entry_for}
use Rattle.rules.specs.Scenes.{name_in, ◌▷◌, fills_d, fills_e, empties_d, empties_e, rights_become, becomes_clean, data_installed, entry_becomes, phase_becomes, idled, becomes_idle}
use Rattle.rules.specs.declared.Node.{Node}
use Rattle.rules.specs.declared.Scene.{Scene}

-- "load: N with GrantDataB or GrantDataT; store: B with GrantT or N with GrantDataT"
unfoldable pub grant_fits : ℕ → ℕ → ℕ → Bool
grant_fits pu r d =
    per_purpose record { none = false; load = eqb r rights_n && (eqb d grant_data_b || eqb d grant_data_t); store = (eqb r rights_b && eqb d grant_t) || (eqb r rights_n && eqb d grant_data_t); evict = false; outside = false } pu

-- 12 take Grant | Wait, probe idle; load: N with GrantDataB or GrantDataT; store: B with GrantT or N with GrantDataT
unfoldable pub take_grant_needs : Scene → Bool
take_grant_needs v = eqb v.node.phase wait && not v.node.probe && grant_fits v.node.purpose v.rights v.link.d

-- | empties D; B for GrantDataB, else Tip; clean; data installed; Confirm
unfoldable pub take_grant_does : Scene → Scene
take_grant_does v = v ▷ empties_d ▷ rights_become (granted_rights v.link.d) ▷ becomes_clean ▷ data_installed v.link ▷ phase_becomes confirm

-- 13 send GrantAck | Confirm, E empty
unfoldable pub send_grant_ack_needs : Scene → Bool
send_grant_ack_needs v = eqb v.node.phase confirm && eqb v.link.e empty

-- "a leaf goes Idle, another Give"
unfoldable pub confirmed : Bool → Node → Node
confirmed leaf m = choose leaf (idled m) (with_phase m give)

-- | a leaf goes Idle, another Give
unfoldable pub send_grant_ack_does : Scene → Scene
send_grant_ack_does v = v ▷ fills_e grant_ack ▷ λ w. with_node w (confirmed v.leaf w.node)

-- "load 0: named B, TT, TB; load 1: TT; store 1: Tip, other entries None, the requester's not Trunk"
unfoldable pub may_grant : ℕ → ℕ → ℕ → ℕ → Bool → ℕ → Bool
may_grant pu choice name r alone e =
    per_purpose record { none = false; load = (eqb choice shared && readable_name name) || (eqb choice sole && eqb name name_tt); store = eqb choice sole && eqb r tip && alone && not (eqb e trunk); evict = false; outside = false } pu

-- 14 send Grant | Give, requester's D empty; load 0: ..; load 1: ..; store 1: ..
unfoldable pub send_grant_needs : Scene → ℕ → Bool
send_grant_needs v choice =
    eqb v.node.phase give && eqb v.link.d empty && may_grant v.node.purpose choice (name_in v) v.rights v.alone v.entry

-- "load 0: GrantDataB ..; load 1: GrantDataT ..; store: GrantT if entry Branch, else GrantDataT"
unfoldable pub grant_for : ℕ → ℕ → ℕ → ℕ
grant_for pu choice e =
    per_purpose record { none = empty; load = choose (eqb choice shared) grant_data_b grant_data_t; store = choose (eqb e branch) grant_t grant_data_t; evict = empty; outside = empty } pu

-- GrantT carries no value
unfoldable pub grant_value : ℕ → ℕ → ℕ
grant_value d x = choose (carries_down d) x 0

-- | load 0: GrantDataB, entry Branch; load 1: GrantDataT, Trunk; store: GrantT if entry Branch, else GrantDataT, then Trunk; Await
abbrev pub grant_sent : Scene → ℕ → Scene
grant_sent v d = v ▷ fills_d d (grant_value d v.node.value) ▷ entry_becomes (entry_for d) ▷ phase_becomes await

unfoldable pub send_grant_does : Scene → ℕ → Scene
send_grant_does v choice = grant_sent v (grant_for v.node.purpose choice v.entry)

-- 15 take GrantAck | Await, requester's E full
unfoldable pub take_grant_ack_needs : Scene → Bool
take_grant_ack_needs v = eqb v.node.phase await && not (eqb v.link.e empty)

-- | empties E; Idle
unfoldable pub take_grant_ack_does : Scene → Scene
take_grant_ack_does v = v ▷ empties_e ▷ becomes_idle
