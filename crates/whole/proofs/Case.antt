-- Document 01's "Whole case", and inputs that are bad at each kind of place, computed from the definition.
use mathlib.Core.Path.{◌≡◌, refl}
use mathlib.Core.List.{List, [], ◌∷◌, ◌++◌}
use Prim.Native.Nat.{ℕ}
use lib.ListN.{take, drop}
-- Printed by tools/print: every definition that is shut.
use Rattle.words.specs.Vocab.{all, any, fill, choose}
use Rattle.rules.specs.Tree.{tree_ok, child_by, leaf_in}
use Rattle.rules.specs.Names.{some_in, none_in, others_none_in, member_in, name_of}
use Rattle.rules.specs.Messages.{carries_up, installs, from_trunk, is_probe_ack, is_release, is_grant, carries_down, granted_rights, entry_for}
use Rattle.rules.specs.Configuration.{copy_ok, serving, evicting, work_ok, at_leaf, leaf_ok, has_requester, requester_ok, child_ok, probe_ok, node_ok, up_ok, down_ok, link_ok, member_ok, entry_ok, pair_ok, slots_empty, blank, stands_ok, right_at, configuration_ok}
use Rattle.rules.specs.Scenes.{value_at, dirty_at, data_taken, installed}
use Rattle.rules.specs.Settle.{next_phase, phase_after, settled_phase}
use Rattle.rules.specs.Local.{load_needs, store_needs, store_does, load_miss_needs, load_miss_does, store_miss_needs, store_miss_does, evict_needs, evict_does, held}
use Rattle.rules.specs.Acquire.{asks_from, send_acquire_needs, acquire_for, send_acquire_does, acquire_fits, take_acquire_needs, purpose_for, take_acquire_does, probed_for}
use Rattle.rules.specs.Probe.{send_probe_needs, cap_for, send_probe_does, serves_probes, take_probe_needs, take_probe_does, probed_by, cap_met, send_probe_ack_needs, cap_rights, fallen, carried, probe_ack_for, send_probe_ack_does, data_fits, take_probe_ack_needs, take_probe_ack_does}
use Rattle.rules.specs.Grant.{grant_fits, take_grant_needs, take_grant_does, send_grant_ack_needs, confirmed, send_grant_ack_does, may_grant, send_grant_needs, grant_for, grant_value, send_grant_does, take_grant_ack_needs, take_grant_ack_does}
use Rattle.rules.specs.Release.{send_release_needs, release_for, send_release_does, awaits, take_release_needs, take_release_does, send_release_ack_needs, send_release_ack_does, take_release_ack_needs, take_release_ack_does}
use Rattle.rules.specs.Table.{listed, numbered}
use Rattle.rules.specs.Events.{other_fits, value_fits, place_fits, event_ok, place_ok}
use Rattle.rules.specs.Step.{tree_parent, tree_parents, start_of, reset_of, end_of, link_there, turn_ok, probed_in, next_of, value_of, first_of, answer_of, step_of, onward_of}
use Rattle.octets.specs.BigEndian.{number, bytes_of}
use Rattle.octets.specs.Fields.{flag_byte, event_at}
use Rattle.octets.specs.Versions.{longest_first}
use Rattle.octets.specs.Written.{standing, after}
use Rattle.opening.specs.Opening.{first_ok, parents_of, reset_asked, reset_by}
use Rattle.lines.specs.Lines.{spelled, field, asked, line, name_text, names_by, end_line, bad_line}
use Rattle.trails.specs.Trail.{record_ok, event_of, closing_in, events_from, started_from, trail_under}
use mathlib.Core.List.{flat_map}
-- End of print.
use Rattle.lines.specs.Lines.{ascii}
use Rattle.trails.specs.Trail.{trail_of}

-- a number below 256 in 8 bytes
abbrev word : ℕ → List ℕ
word v = 0 ∷ 0 ∷ 0 ∷ 0 ∷ 0 ∷ 0 ∷ 0 ∷ v ∷ []

abbrev event : ℕ → ℕ → ℕ → ℕ → List ℕ
event k x o v = 0 ∷ 11 ∷ k ∷ x ∷ o ∷ word v

-- "version 1, first value 7, one parent 0"
abbrev start : List ℕ
start = 1 ∷ 0 ∷ 9 ∷ word 7 ++ (0 ∷ [])

-- "events (kind node other value) 4 1 0 0; 6 1 0 0; 7 0 1 0; 14 0 1 0; 12 1 0 0; 13 1 0 0; 15 0 0 0; 2 1 0 9; 1 1 0 0; 3 1 0 0"
abbrev whole_case : List ℕ
whole_case =
    start ++ event 4 1 0 0 ++ event 6 1 0 0 ++ event 7 0 1 0 ++ event 14 0 1 0 ++ event 12 1 0 0 ++ event 13 1 0 0 ++ event 15 0 0 0 ++ event 2 1 0 9 ++ event 1 1 0 0 ++ event 3 1 0 0

-- what document 01 prints there
abbrev printed : List ℕ
printed =
    ascii "1 4 1 0 0\n2 6 1 0 0\n3 7 0 0 0\n4 14 0 0 0\n5 12 1 0 0\n6 13 1 0 0\n7 15 0 0 0\n8 2 1 0 0\n9 1 1 0 9\n10 3 1 5 0\nend T TT\n"

-- an event that is refused, and then a record that is bad
abbrev broken : List ℕ → List ℕ
broken r = start ++ event 1 1 0 0 ++ r

abbrev breaks : List ℕ
breaks = ascii "1 1 1 5 0\nbad 25\n"

-- The whole case; no event; no version, a wrong one; no first record, one that is cut short, one with a bad tree; a record that
-- is cut in the middle of its length, one that is cut short, one of another length.
pub cases : (trail_of whole_case ≡ printed)
    × (trail_of start ≡ ascii "end TT N\n")
    × (trail_of [] ≡ ascii "bad 0\n")
    × (trail_of (2 ∷ drop 1 start) ≡ ascii "bad 0\n")
    × (trail_of (take 1 start) ≡ ascii "bad 1\n")
    × (trail_of (take 11 start) ≡ ascii "bad 1\n")
    × (trail_of (take 11 start ++ (1 ∷ [])) ≡ ascii "bad 1\n")
    × (trail_of (broken (0 ∷ [])) ≡ breaks)
    × (trail_of (broken (take 12 (event 1 1 0 0))) ≡ breaks)
    × (trail_of (broken (0 ∷ 12 ∷ 1 ∷ 1 ∷ 0 ∷ word 0 ++ (0 ∷ []))) ≡ breaks)
unfolding all any fill choose tree_ok child_by leaf_in some_in none_in others_none_in member_in name_of carries_up installs from_trunk is_probe_ack is_release is_grant carries_down granted_rights entry_for copy_ok serving evicting work_ok at_leaf leaf_ok has_requester requester_ok child_ok probe_ok node_ok up_ok down_ok link_ok member_ok entry_ok pair_ok slots_empty blank stands_ok right_at configuration_ok value_at dirty_at data_taken installed next_phase phase_after settled_phase load_needs store_needs store_does load_miss_needs load_miss_does store_miss_needs store_miss_does evict_needs evict_does held asks_from send_acquire_needs acquire_for send_acquire_does acquire_fits take_acquire_needs purpose_for take_acquire_does probed_for send_probe_needs cap_for send_probe_does serves_probes take_probe_needs take_probe_does probed_by cap_met send_probe_ack_needs cap_rights fallen carried probe_ack_for send_probe_ack_does data_fits take_probe_ack_needs take_probe_ack_does grant_fits take_grant_needs take_grant_does send_grant_ack_needs confirmed send_grant_ack_does may_grant send_grant_needs grant_for grant_value send_grant_does take_grant_ack_needs take_grant_ack_does send_release_needs release_for send_release_does awaits take_release_needs take_release_does send_release_ack_needs send_release_ack_does take_release_ack_needs take_release_ack_does listed numbered other_fits value_fits place_fits event_ok place_ok tree_parent tree_parents start_of reset_of end_of link_there turn_ok probed_in next_of value_of first_of answer_of step_of onward_of number bytes_of flag_byte event_at longest_first standing after first_ok parents_of reset_asked reset_by spelled field asked line name_text names_by end_line bad_line record_ok event_of closing_in events_from started_from trail_under flat_map
cases = (refl, refl, refl, refl, refl, refl, refl, refl, refl, refl)
