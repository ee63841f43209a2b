-- "Both sides of each edge": the starred cases as one table under one theorem, computed from the definitions.
use mathlib.Core.Bool.{Bool, true, ◌&&◌}
use mathlib.Core.Path.{◌≡◌, refl}
use mathlib.Core.List.{List, [], ◌∷◌}
use Prim.Native.Nat.{ℕ}
use lib.ListN.{replicate}
use lib.Dec.{eqb}
-- Printed by tools/print: every definition that is shut.
use Rattle.words.specs.Vocab.{all, any, fill, choose}
use Rattle.rules.specs.Tree.{tree_ok, child_by, leaf_in}
use Rattle.rules.specs.Names.{some_in, none_in, others_none_in, member_in, name_of}
use Rattle.rules.specs.Messages.{carries_up, installs, from_trunk, is_probe_ack, is_release, is_grant, carries_down, granted_rights, entry_for}
use Rattle.rules.specs.Configuration.{copy_ok, serving, evicting, work_ok, at_leaf, leaf_ok, has_requester, requester_ok, child_ok, probe_ok, node_ok, up_ok, down_ok, link_ok, member_ok, entry_ok, pair_ok, slots_empty, blank, stands_ok, right_at, configuration_ok}
use Rattle.rules.specs.Scenes.{value_at, dirty_at, data_taken, installed}
use Rattle.rules.specs.Settle.{next_phase, phase_after, settled_phase}
use Rattle.rules.specs.Local.{load_needs, store_needs, store_does, load_miss_needs, load_miss_does, store_miss_needs, store_miss_does, evict_needs, evict_does, held}
use Rattle.rules.specs.Acquire.{asks_from, send_acquire_needs, acquire_for, send_acquire_does, acquire_fits, take_acquire_needs, purpose_for, take_acquire_does, probed_for}
use Rattle.rules.specs.Probe.{send_probe_needs, cap_for, send_probe_does, serves_probes, take_probe_needs, take_probe_does, probed_by, cap_met, send_probe_ack_needs, cap_rights, fallen, carried, probe_ack_for, send_probe_ack_does, data_fits, take_probe_ack_needs, take_probe_ack_does}
use Rattle.rules.specs.Grant.{grant_fits, take_grant_needs, take_grant_does, send_grant_ack_needs, confirmed, send_grant_ack_does, may_grant, send_grant_needs, grant_for, grant_value, send_grant_does, take_grant_ack_needs, take_grant_ack_does}
use Rattle.rules.specs.Release.{send_release_needs, release_for, send_release_does, awaits, take_release_needs, take_release_does, send_release_ack_needs, send_release_ack_does, take_release_ack_needs, take_release_ack_does}
use Rattle.rules.specs.Table.{listed, numbered}
use Rattle.rules.specs.Events.{other_fits, value_fits, place_fits, event_ok, place_ok}
use Rattle.rules.specs.Step.{tree_parent, tree_parents, start_of, reset_of, end_of, link_there, turn_ok, probed_in, next_of, value_of, first_of, answer_of, step_of, onward_of}
-- End of print.
use Rattle.rules.specs.Codes.{accepts, shared, sole, bad_tree, bad_event, wrong_place, out_of_turn}
use Rattle.rules.specs.Kinds.{kind_load, kind_store, kind_load_miss, kind_store_miss, kind_evict, kind_send_acquire, kind_take_acquire, kind_send_probe, kind_take_probe, kind_send_probe_ack, kind_take_grant, kind_send_grant_ack, kind_send_grant, kind_take_grant_ack, kind_send_release}
use Rattle.rules.specs.declared.Event.{Event}
use Rattle.rules.specs.declared.Answer.{Answer}

abbrev event : ℕ → ℕ → ℕ → ℕ → Event
event k x o v = record { kind = k; node = x; other = o; value = v }

-- the tree with these parents of nodes 1 upward, at reset with first value 7
abbrev from : ℕ → List ℕ → Answer
from n ps = reset_of n (0 ∷ ps) 7

-- a step where all before it was accepted, and otherwise what refused
abbrev then : Answer → Event → Answer
then a e = choose (eqb a.number accepts) (onward_of a.state e) a

-- the answer after these events, each taken from the configuration before
unfoldable pub after : Answer → List Event → Answer
after a [] = a
after a (e ∷ es) = after (then a e) es

-- two nodes, and three with two leaves
abbrev pair : Answer
pair = from 2 (0 ∷ [])

abbrev fork : Answer
fork = from 3 (0 ∷ 0 ∷ [])

-- node x misses, and the root serves it
abbrev served : ℕ → ℕ → ℕ → List Event
served miss choice x =
    event miss x 0 0 ∷ event kind_send_acquire x 0 0 ∷ event kind_take_acquire 0 x 0 ∷ event kind_send_grant 0 choice 0 ∷ event kind_take_grant x 0 0
    ∷ event kind_send_grant_ack x 0 0 ∷ event kind_take_grant_ack 0 0 0 ∷ []

-- "node 1 TT and dirty with 9: node 2 load-misses, the root takes it (Clear). Node 1 evicts and sends ReleaseData;
-- the root sends ProbeB, since the purpose is load. Node 1 takes it"
abbrev late_release : List Event
late_release =
    event kind_store 1 0 9 ∷ event kind_load_miss 2 0 0 ∷ event kind_send_acquire 2 0 0 ∷ event kind_take_acquire 0 2 0 ∷ event kind_evict 1 0 0
    ∷ event kind_send_release 1 0 0 ∷ event kind_send_probe 0 1 0 ∷ event kind_take_probe 1 0 0 ∷ []

-- An edge: what leads to it, which has to be accepted, the answer there, and the number that document 01 gives.
pub record Edge : Type 0 where
  pub before : Answer
  pub answer : Answer
  pub number : ℕ

-- an edge of reset, and one of a step
abbrev at_reset : Answer → ℕ → Edge
at_reset a n = record { before = pair; answer = a; number = n }

abbrev at_step : Answer → Event → ℕ → Edge
at_step a e n = record { before = a; answer = step_of a.state e; number = n }

abbrev pub starred : List Edge
starred =
    at_reset (from 1 []) bad_tree
    ∷ at_reset (from 17 (replicate 15 0)) bad_tree
    ∷ at_reset (from 4 (0 ∷ 0 ∷ 2 ∷ [])) accepts
    ∷ at_reset (from 4 (0 ∷ 0 ∷ 3 ∷ [])) bad_tree
    ∷ at_step pair (event 0 1 0 0) bad_event
    ∷ at_step pair (event 20 1 0 0) bad_event
    ∷ at_step pair (event kind_load 0 0 0) wrong_place
    ∷ at_step pair (event kind_evict 0 0 0) wrong_place
    ∷ at_step pair (event kind_load 1 0 0) out_of_turn
    ∷ at_step (after pair (served kind_load_miss shared 1)) (event kind_store 1 0 9) out_of_turn
    ∷ at_step (after pair (served kind_store_miss sole 1)) (event kind_store 1 0 9) accepts
    ∷ at_step (after (after fork (served kind_store_miss sole 1)) late_release) (event kind_send_probe_ack 1 0 0) out_of_turn
    ∷ []

abbrev pub every : List Edge → Bool
every [] = true
every (r ∷ rs) = eqb r.before.number accepts && eqb r.answer.number r.number && every rs

pub edges : every starred ≡ true
unfolding after all any fill choose tree_ok child_by leaf_in some_in none_in others_none_in member_in name_of carries_up installs from_trunk is_probe_ack is_release is_grant carries_down granted_rights entry_for copy_ok serving evicting work_ok at_leaf leaf_ok has_requester requester_ok child_ok probe_ok node_ok up_ok down_ok link_ok member_ok entry_ok pair_ok slots_empty blank stands_ok right_at configuration_ok value_at dirty_at data_taken installed next_phase phase_after settled_phase load_needs store_needs store_does load_miss_needs load_miss_does store_miss_needs store_miss_does evict_needs evict_does held asks_from send_acquire_needs acquire_for send_acquire_does acquire_fits take_acquire_needs purpose_for take_acquire_does probed_for send_probe_needs cap_for send_probe_does serves_probes take_probe_needs take_probe_does probed_by cap_met send_probe_ack_needs cap_rights fallen carried probe_ack_for send_probe_ack_does data_fits take_probe_ack_needs take_probe_ack_does grant_fits take_grant_needs take_grant_does send_grant_ack_needs confirmed send_grant_ack_does may_grant send_grant_needs grant_for grant_value send_grant_does take_grant_ack_needs take_grant_ack_does send_release_needs release_for send_release_does awaits take_release_needs take_release_does send_release_ack_needs send_release_ack_does take_release_ack_needs take_release_ack_does listed numbered other_fits value_fits place_fits event_ok place_ok tree_parent tree_parents start_of reset_of end_of link_there turn_ok probed_in next_of value_of first_of answer_of step_of onward_of
edges = refl
