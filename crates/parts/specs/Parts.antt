-- The step on a tree within the node limit, without numbers 1 and 2.
use Rattle.std.specs.Prelude.{not, ◌∷◌, ℕ, leb, ltb}
use Rattle.words.specs.Vocab.{choose}
use Rattle.rules.specs.Codes.{node_limit, bad_tree}
use Rattle.rules.specs.Table.{kind_of}
use Rattle.rules.specs.Step.{end_of, refusal, first_of, event_refusals, answer_of}
use Rattle.rules.specs.declared.State.{State}
use Rattle.rules.specs.declared.Node.{Node}
use Rattle.rules.specs.declared.Event.{Event}
use Rattle.rules.specs.declared.Answer.{Answer}

-- an index from a byte: 0 where it is none
unfoldable pub index_of : ℕ → ℕ
index_of k = choose (ltb k node_limit) k 0

-- the node whose link the event acts on; m is the node at which it happens
unfoldable pub end_in : Event → Node → ℕ
end_in e m = index_of (end_of (kind_of e.kind).row.end m e.node e.other)

unfoldable pub moved_of : State → Event → Answer
moved_of s e = answer_of (first_of (refusal bad_tree (not (leb s.count node_limit)) ∷ event_refusals s e)) s e
