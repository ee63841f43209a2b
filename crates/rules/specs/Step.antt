-- Reset, and the step: "the first that applies is given and none otherwise".
use Rattle.std.specs.Prelude.{Bool, true, false, not, ◌&&◌, List, [], ◌∷◌, ℕ, ◌*◌, get_or, set, replicate, eqb, ltb}
use Rattle.words.specs.Vocab.{fill, choose}
use Rattle.rules.specs.Codes.{node_limit, cells, tip, accepts, bad_tree, not_a_configuration, bad_event, wrong_place, out_of_turn}
use Rattle.rules.specs.With.{with_value, with_phase}
use Rattle.rules.specs.Cells.{blank_node, blank_link, cell, node}
use Rattle.rules.specs.Tree.{tree_ok, good_tree, is_child}
use Rattle.rules.specs.Names.{sets_empty_in}
use Rattle.rules.specs.Configuration.{configuration_ok}
use Rattle.rules.specs.Scenes.{scene_of, name_in}
use Rattle.rules.specs.Settle.{settled_phase}
use Rattle.rules.specs.Local.{held}
use Rattle.rules.specs.Acquire.{purpose_for, probed_for}
use Rattle.rules.specs.Probe.{probed_by}
use Rattle.rules.specs.Table.{Kind, kind_of}
use Rattle.rules.specs.Events.{event_ok, place_ok}
use Rattle.rules.specs.declared.State.{State}
use Rattle.rules.specs.declared.Node.{Node}
use Rattle.rules.specs.declared.Scene.{Scene}
use Rattle.rules.specs.declared.Event.{Event}
use Rattle.rules.specs.declared.Answer.{Answer}
use Rattle.rules.specs.declared.kinds.End.{End}
use Rattle.rules.specs.declared.kinds.End.TheVariants.{Own, Named, Requester, Noted}
use Rattle.rules.specs.declared.kinds.Probes.{Probes}
use Rattle.rules.specs.declared.kinds.Probes.TheVariants.{Stay, Held, Asked, Capped}
use Rattle.rules.specs.declared.kinds.Settles.{Settles}

-- "Every accepted step gives a new configuration .. The answer value is the load's, else 0."
abbrev pub accepted : ℕ → State → Answer
accepted v s = record { number = accepts; value = v; state = s }

-- "A refusal returns value 0 and the configuration unchanged, bad ones included."
abbrev pub refused : ℕ → State → Answer
refused n s = record { number = n; value = 0; state = s }

-- an all-zero record
abbrev pub blank_state : State
blank_state =
    record { count = 0; parents = replicate node_limit 0; rights = replicate node_limit 0; entries = replicate cells 0; to_probe = replicate cells false; pending = replicate cells false; nodes = replicate node_limit blank_node; links = replicate node_limit blank_link }

-- the parent of k that reset writes: as it was given for nodes 1 to the last, and zero elsewhere
unfoldable pub tree_parent : ℕ → List ℕ → ℕ → ℕ
tree_parent n ps k = choose (ltb k n) (choose (eqb k 0) 0 (get_or ps k 0)) 0

unfoldable pub tree_parents : ℕ → List ℕ → List ℕ
tree_parents n ps = fill (tree_parent n ps) 0 node_limit (replicate node_limit 0)

-- "Reset: root Tip, clean, first value; all others N with value 0; entries None; everything idle and empty."
unfoldable pub start_of : ℕ → List ℕ → ℕ → State
start_of n ps v =
    record { count = n; parents = tree_parents n ps; rights = set (replicate node_limit 0) 0 tip; entries = replicate cells 0; to_probe = replicate cells false; pending = replicate cells false; nodes = set (replicate node_limit blank_node) 0 (with_value blank_node v); links = replicate node_limit blank_link }

-- "Reset on a bad tree gives number 1 and an all-zero record."
unfoldable pub reset_of : ℕ → List ℕ → ℕ → Answer
reset_of n ps v = choose (not (tree_ok n ps)) (refused bad_tree blank_state) (accepted 0 (start_of n ps v))

-- whose link the event acts on: that of x itself, or of a child of x
unfoldable pub end_of : End → Node → ℕ → ℕ → ℕ
end_of Own m x o = x
end_of Named m x o = o
end_of Requester m x o = m.requester
end_of Noted m x o = m.release

-- A row that acts on a child's link needs that child. In a configuration the requester and the noted child are children of x, and
-- number 3 looks at the other; elsewhere the row has no link to speak of.
unfoldable pub link_there : End → Bool → Bool
link_there Own child = true
link_there Named child = child
link_there Requester child = child
link_there Noted child = child

abbrev pub end_at : State → Event → ℕ
end_at s e = end_of (kind_of e.kind).row.end (node s e.node) e.node e.other

abbrev pub scene_at : State → Event → Scene
scene_at s e = scene_of s e.node (end_at s e)

-- number 5: "the kind's needs don't hold"
unfoldable pub turn_ok : State → Event → Bool
turn_ok s e = link_there (kind_of e.kind).row.end (is_child s e.node (end_at s e)) && (kind_of e.kind).needs (scene_at s e) e

-- the row of x in to-probe, by its entries es, as the row of the kind says: v is the scene and q the event's other
unfoldable pub probed_in : Probes → Scene → ℕ → List ℕ → ℕ → List Bool → List Bool
probed_in Stay v q es x l = l
probed_in Held v q es x l = fill (λ k. held (get_or es (cell x k) 0)) (x * node_limit) node_limit l
probed_in Asked v q es x l = fill (λ k. probed_for (purpose_for v.link.a) (name_in v) q (get_or es (cell x k) 0) k) (x * node_limit) node_limit l
probed_in Capped v q es x l = fill (λ k. probed_by v.link.b (get_or es (cell x k) 0)) (x * node_limit) node_limit l

-- the fields m once they have settled, with the rights r and these sets
abbrev pub settled_node : Settles → Bool → Node → ℕ → Node
settled_node t bothEmpty m r = with_phase m (settled_phase t bothEmpty m r)

-- What stands at node x and on the link of j once the scene w is written there, with this row of to-probe; "fields not named keep theirs".
abbrev pub written : State → ℕ → ℕ → Scene → Settles → List Bool → List Bool → State
written s x j w t listed waits =
    record { count = s.count; parents = s.parents; rights = set s.rights x w.rights; entries = set s.entries (cell x j) w.entry; to_probe = listed; pending = waits; nodes = set s.nodes x (settled_node t (sets_empty_in listed waits x) w.node w.rights); links = set s.links j w.link }

-- what the row k makes of node x and the link of j, at the scene v: its effect w, then to-probe, then settle
abbrev pub effect_of : Kind → State → ℕ → ℕ → Event → Scene → Scene → State
effect_of k s x j e v w =
    written s x j w k.row.settles
    (probed_in k.row.probes v e.other s.entries x (set s.to_probe (cell x j) w.to_probe))
    (set s.pending (cell x j) w.pending)

abbrev pub done_by : Kind → State → Event → ℕ → Scene → State
done_by k s e j v = effect_of k s e.node j e v (k.does v e)

-- the configuration after the event, and its answer value
unfoldable pub next_of : State → Event → State
next_of s e = done_by (kind_of e.kind) s e (end_at s e) (scene_at s e)

unfoldable pub value_of : State → Event → ℕ
value_of s e = (kind_of e.kind).says (scene_at s e)

-- A number of the table, and whether it applies.
pub record Refusal : Type 0 where
  pub number : ℕ
  pub applies : Bool

abbrev pub refusal : ℕ → Bool → Refusal
refusal n b = record { number = n; applies = b }

-- the first number that applies, and 0 where none does
unfoldable pub first_of : List Refusal → ℕ
first_of [] = accepts
first_of (r ∷ rs) = choose r.applies r.number (first_of rs)

-- the event's own: numbers 3, 4 and 5
abbrev pub event_refusals : State → Event → List Refusal
event_refusals s e = refusal bad_event (not (event_ok s e)) ∷ refusal wrong_place (not (place_ok s e)) ∷ refusal out_of_turn (not (turn_ok s e)) ∷ []

-- all, in the order in which they are judged
abbrev pub refusals : State → Event → List Refusal
refusals s e = refusal bad_tree (not (good_tree s)) ∷ refusal not_a_configuration (not (configuration_ok s)) ∷ event_refusals s e

-- the answer with this number
unfoldable pub answer_of : ℕ → State → Event → Answer
answer_of n s e = choose (eqb n accepts) (accepted (value_of s e) (next_of s e)) (refused n s)

-- the step
unfoldable pub step_of : State → Event → Answer
step_of s e = answer_of (first_of (refusals s e)) s e

-- the step for a configuration that is known to be one: number 2 is left out
unfoldable pub onward_of : State → Event → Answer
onward_of s e = answer_of (first_of (refusal bad_tree (not (good_tree s)) ∷ event_refusals s e)) s e
