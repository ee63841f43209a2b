-- What `act` does is the event of the definitions; and the step, by the tests of the code.
use mathlib.Core.Path.{◌≡◌, ap, refl, sym, ◌∙◌}
use mathlib.Core.Bool.{Bool, true, false, not, ◌&&◌, and-false}
use mathlib.Core.Logic.{◌≢◌, ◌⊎◌, inl, inr}
use mathlib.Core.List.{[], ◌∷◌}
use Prim.Native.Nat.{ℕ, ◌<◌, ◌≤◌}
use native.Mathlib.Decide.{dec_lt}
use native.Mathlib.Omega.{arith}
use borrow.Author.Tests.{leb-true, ltb-true, lt-ltb, le-ltb, ne_eqb}
use lib.ListN.{get_or}
use lib.Dec.{eqb, leb, ltb}
use Rattle.words.specs.Vocab.{choose}
use Rattle.words.proofs.Meeting.{tests}
use Rattle.words.proofs.Facts.{both, decided, choose_true, choose_false}
use Rattle.rules.specs.Codes.{node_least, node_limit, accepts, bad_tree, not_a_configuration, bad_event, wrong_place, out_of_turn}
use Rattle.rules.specs.Cells.{node}
use Rattle.rules.specs.Tree.{tree_ok, good_tree, child_by}
use Rattle.rules.specs.Configuration.{configuration_ok}
use Rattle.rules.specs.Scenes.{scene_of}
use Rattle.rules.specs.Table.{is_kind, kind_of}
use Rattle.rules.specs.Events.{value_fits, event_ok, place_ok}
use Rattle.std.specs.Prelude.{Result}
use Rattle.rules.specs.Refusals.{number_of, number_said, value_said, answer_said}
use Rattle.rules.specs.Step.{accepted, refused, end_of, link_there, end_at, turn_ok, effect_of, next_of, value_of, refusal, first_of, event_refusals, answer_of, step_of, onward_of}
use Rattle.rules.specs.declared.State.{State}
use Rattle.rules.specs.declared.Event.{Event}
use Rattle.rules.specs.declared.Node.{Node}
use Rattle.rules.specs.declared.Scene.{Scene}
use Rattle.rules.specs.declared.Refusal.{Refusal}
use Rattle.rules.specs.declared.kinds.Row.{Row}
use Rattle.rules.specs.declared.Answer.{Answer}
use Rattle.rules.specs.declared.kinds.End.{End}
use Rattle.rules.specs.declared.kinds.End.TheVariants.{Own, Named, Requester, Noted}
use Rattle.laws.proofs.Results.{has_number}
use Rattle.needs.specs.Judged.{number_in}
use Rattle.parts.specs.Parts.{index_of, end_in, moved_of}

module _ (s : State) (e : Event) where
  abbrev pub number : ℕ → ℕ → ℕ
  number x j = number_in s (kind_of e.kind).row (scene_of s x j) x j e

  abbrev pub answer : ℕ → ℕ → ℕ → Answer
  answer k x j =
      choose (eqb k accepts)
      (accepted ((kind_of e.kind).says (scene_of s x j)) (effect_of (kind_of e.kind) s x j e (scene_of s x j) ((kind_of e.kind).does (scene_of s x j) e)))
      (refused k s)

-- an index within the arrays, and one beyond them
index_in : (k : ℕ) → k < node_limit → index_of k ≡ k
unfolding index_of
index_in k h = choose_true k 0 (lt-ltb k node_limit h)

index_off : (k : ℕ) → node_limit ≤ k → index_of k ≡ 0
unfolding index_of
index_off k h = choose_false k 0 (le-ltb k node_limit h)

-- no child stands beyond the arrays, and none is the root
no_child_lem : (n p x k : ℕ) → (n ≤ k) ⊎ (k ≡ 0) → child_by n p x k ≡ false
unfolding child_by
no_child_lem n p x k (inl h) = rw (le-ltb k n h)
no_child_lem n p x k (inr h) = rw (h, and-false (ltb 0 n))

-- a child's link that is not there
not_there : (d : End) (m : Node) (x o : ℕ) → x < node_limit → node_limit ≤ end_of d m x o → link_there d false ≡ false
unfolding link_there end_of
not_there Own m x o h l = absurd (omega arith)
not_there Named m x o h l = refl
not_there Requester m x o h l = refl
not_there Noted m x o h l = refl

-- the last of the refusals applies
last_applies : (a b c : Bool) → first_of (refusal bad_tree a ∷ refusal bad_event b ∷ refusal wrong_place c ∷ refusal out_of_turn true ∷ []) ≢ accepts
unfolding first_of choose
last_applies true b c h = omega arith
last_applies false true c h = omega arith
last_applies false false true h = omega arith
last_applies false false false h = omega arith

module _ (s : State) (e : Event) where
  abbrev x₀ : ℕ
  x₀ = index_of e.node

  abbrev j₀ : ℕ
  j₀ = end_in e (node s (index_of e.node))

  -- both refuse with the same number
  same_refusal : (k : ℕ) → k ≢ accepts → number s e x₀ j₀ ≡ k → first_of (refusal bad_tree (not (leb s.count node_limit)) ∷ event_refusals s e) ≡ k
      → answer s e (number s e x₀ j₀) x₀ j₀ ≡ moved_of s e
  unfolding moved_of answer_of
  same_refusal k n f g = rw (f, g) (choose_false _ _ (ne_eqb k accepts n) ∙ sym (choose_false _ _ (ne_eqb k accepts n)))

  module _ (small : s.count ≤ node_limit) (good : event_ok s e ≡ true) where
    inside : e.node < s.count
    unfolding event_ok
    inside = ltb-true _ _ (both (is_kind e.kind) _ (both (is_kind e.kind && ltb e.node s.count) _ (both _ (value_fits (kind_of e.kind).row.value e.value) good).0).0).1

    at_node : x₀ ≡ e.node
    at_node = index_in e.node (let l = inside in omega arith)

    at_end : j₀ ≡ index_of (end_at s e)
    unfolding end_in
    at_end = rw at_node

    -- the link is within the arrays: the same scene
    here : end_at s e < node_limit → answer s e (number s e x₀ j₀) x₀ j₀ ≡ moved_of s e
    unfolding moved_of answer_of number_in event_ok place_ok turn_ok next_of value_of
    here h = rw (at_end, at_node, index_in (end_at s e) h)

    -- it is not, and both refuse
    off : node_limit ≤ end_at s e → answer s e (number s e x₀ j₀) x₀ j₀ ≡ moved_of s e
    unfolding number_in event_ok place_ok turn_ok
    off h = same_refusal _ (last_applies (not (leb s.count node_limit)) (not (event_ok s e)) (not (place_ok s e))) (rw (at_end, at_node, index_off (end_at s e) h, no_child_lem s.count (get_or s.parents 0 0) e.node 0 (inr refl), gone)) (rw (no_child_lem s.count (get_or s.parents (end_at s e) 0) e.node (end_at s e) (inl (omega arith)), gone))
      where
        gone : link_there (kind_of e.kind).row.end false ≡ false
        gone = not_there (kind_of e.kind).row.end (node s e.node) e.node e.other (let l = inside in omega arith) h

  pub moved_at : answer s e (number s e x₀ j₀) x₀ j₀ ≡ moved_of s e
  unfolding number_in first_of choose event_ok
  moved_at = go (decided (leb s.count node_limit)) (decided (event_ok s e))
    where
      go : (leb s.count node_limit ≡ true) ⊎ (leb s.count node_limit ≡ false) → (event_ok s e ≡ true) ⊎ (event_ok s e ≡ false)
          → answer s e (number s e x₀ j₀) x₀ j₀ ≡ moved_of s e
      go (inr d) b = same_refusal bad_tree (λ z. omega arith) (rw d) (rw d)
      go (inl d) (inr b) = same_refusal bad_event (λ z. omega arith) (rw (d, b)) (rw (d, b))
      go (inl d) (inl b) = at (dec_lt (end_at s e) node_limit)
        where
          at : Dec (end_at s e < node_limit) → answer s e (number s e x₀ j₀) x₀ j₀ ≡ moved_of s e
          at (yes h) = here (leb-true _ _ d) b h
          at (no h) = off (leb-true _ _ d) b (omega arith)

-- what `act` meets: x, j, v and r are what the code found for the event
module _ (s : State) (e : Event) {r : Row} {x j : ℕ} {v : Scene} (the_row : r ≡ (kind_of e.kind).row) (the_node : x ≡ index_of e.node)
    (the_end : j ≡ end_in e (node s x)) (seen : v ≡ scene_of s x j) where
  settled : answer s e (number_in s r v x j e) x j ≡ moved_of s e
  settled = rw (seen, the_end, the_node, the_row) (moved_at s e)

  pub acts_refused : (k : Refusal) → number_of k ≡ number_in s r v x j e → refused (number_of k) s ≡ moved_of s e
  acts_refused k h = sym (choose_false _ _ (ne_eqb (number_of k) accepts (has_number k))) ∙ (rw (← h) at settled)

  pub acts_accepted : {w : Scene} {t : State} {a : ℕ} → accepts ≡ number_in s r v x j e → w ≡ (kind_of e.kind).does v e
      → t ≡ effect_of (kind_of e.kind) s x j e v w → a ≡ (kind_of e.kind).says v → accepted a t ≡ moved_of s e
  acts_accepted h f g d = rw (d, g, f, seen) (sym (choose_true _ _ refl) ∙ (rw (← h) at settled))

pub ruleset acting = (acts_refused, acts_accepted)

-- what an owner cites of `act`: its number and its value are the step's, and what stands there afterwards is the step's configuration
pub moves : (s t : State) (e : Event) (q : Result ℕ Refusal) → answer_said q t ≡ moved_of s e
    → (number_said q ≡ (moved_of s e).number) × (value_said q ≡ (moved_of s e).value) × (t ≡ (moved_of s e).state)
moves s t e q h = (ap (λ (a : Answer). a.number) h, ap (λ (a : Answer). a.value) h, ap (λ (a : Answer). a.state) h)

-- a good tree is within the node limit
pub within_limit : (s : State) → good_tree s ≡ true → leb s.count node_limit ≡ true
unfolding tree_ok
within_limit s h = (both (leb node_least s.count) _ (both (leb node_least s.count && leb s.count node_limit) _ h).0).1

-- the step, by the code's tests one after the other
module _ (s : State) (e : Event) {a : Answer} where
  pub onward_bad : good_tree s ≡ false → a ≡ refused bad_tree s → a ≡ onward_of s e
  unfolding onward_of first_of answer_of choose
  onward_bad h f = rw h f

  pub onward_good : good_tree s ≡ true → a ≡ moved_of s e → a ≡ onward_of s e
  unfolding onward_of moved_of first_of choose
  onward_good h f = rw h (rw (within_limit s h) at f)

  pub step_bad : good_tree s ≡ false → a ≡ refused bad_tree s → a ≡ step_of s e
  unfolding step_of first_of answer_of choose
  step_bad h f = rw h f

  pub step_none : good_tree s ≡ true → configuration_ok s ≡ false → a ≡ refused not_a_configuration s → a ≡ step_of s e
  unfolding step_of first_of answer_of choose
  step_none h g f = rw (h, g) f

  pub step_good : good_tree s ≡ true → configuration_ok s ≡ true → a ≡ moved_of s e → a ≡ step_of s e
  unfolding step_of moved_of first_of choose
  step_good h g f = rw (h, g) (rw (within_limit s h) at f)

pub ruleset stepping = (onward_bad, onward_good, step_bad, step_none, step_good, tests)
