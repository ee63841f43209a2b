-- The number of a refusal, with the row of the kind and the scene of node x and the link of j.
-- Each definition is, by its own words, the one of crate rules.
use Rattle.std.specs.Prelude.{Bool, not, ◌&&◌, [], ◌∷◌, ℕ, leb, ltb}
use Rattle.rules.specs.Codes.{node_limit, bad_tree, bad_event, wrong_place, out_of_turn}
use Rattle.rules.specs.Tree.{is_child}
use Rattle.rules.specs.Table.{is_kind, kind_of}
use Rattle.rules.specs.Events.{other_fits, value_fits, place_fits}
use Rattle.rules.specs.Step.{link_there, refusal, first_of}
use Rattle.rules.specs.declared.State.{State}
use Rattle.rules.specs.declared.Scene.{Scene}
use Rattle.rules.specs.declared.Event.{Event}
use Rattle.rules.specs.declared.kinds.Row.{Row}

-- event_ok, place_ok and turn_ok, with the row of the kind
abbrev pub event_in : State → Row → Event → Bool
event_in s r e = is_kind e.kind && ltb e.node s.count && other_fits r.other (is_child s e.node e.other) e.other && value_fits r.value e.value

abbrev pub place_in : Row → Scene → Event → Bool
place_in r v e = place_fits r.place v.leaf e.node

abbrev pub turn_in : State → Row → Scene → ℕ → ℕ → Event → Bool
turn_in s r v x j e = link_there r.end (is_child s x j) && (kind_of e.kind).needs v e

-- the first number that applies on a tree within the node limit
unfoldable pub number_in : State → Row → Scene → ℕ → ℕ → Event → ℕ
number_in s r v x j e =
    first_of
    (refusal bad_tree (not (leb s.count node_limit)) ∷ refusal bad_event (not (event_in s r e)) ∷ refusal wrong_place (not (place_in r v e))
    ∷ refusal out_of_turn (not (turn_in s r v x j e)) ∷ [])
