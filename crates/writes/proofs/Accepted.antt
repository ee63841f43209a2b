-- What an accepted step is: its event, its place and its needs hold, and it did what its row does; and a fact shown for each kind.
use mathlib.Core.Path.{◌≡◌, refl, sym, ◌∙◌}
use mathlib.Core.Bool.{true, false, ◌&&◌, ◌||◌, false≢true}
use mathlib.Core.Logic.{◌≢◌, ◌⊎◌, inl, inr}
use mathlib.Core.List.{List, [], ◌∷◌}
use Prim.Native.Nat.{ℕ, ◌<◌, ◌≤◌}
use native.Mathlib.Omega.{arith}
use borrow.Author.Tests.{eqb-true, leb-true, ltb-true, not-false}
use lib.ListN.{get_or}
use lib.Dec.{eqb, leb, ltb}
use Rattle.words.specs.Vocab.{all, choose}
use Rattle.words.proofs.Facts.{both, all_at, either, by_test}
use Rattle.rules.specs.Codes.{node_least, node_limit, accepts}
use Rattle.rules.specs.Cells.{node}
use Rattle.rules.specs.Tree.{parent_ok, tree_ok, good_tree, is_child}
use Rattle.rules.specs.Configuration.{configuration_ok}
use Rattle.rules.specs.Events.{other_fits, value_fits, event_ok, place_ok}
use Rattle.rules.specs.Scenes.{scene_of}
use Rattle.rules.specs.Table.{Kind, kinds, listed, numbered, is_kind, kind_of}
use Rattle.rules.specs.Step.{end_of, done_by, end_at, scene_at, link_there, turn_ok, value_of, next_of, Refusal, first_of, event_refusals, refusals, answer_of, step_of, onward_of}
use Rattle.rules.specs.declared.State.{State}
use Rattle.rules.specs.declared.Event.{Event}
use Rattle.rules.specs.declared.Answer.{Answer}

-- the tree is good
pub record Tree (n : ℕ) (ps : List ℕ) : Type 0 where
  pub least : node_least ≤ n
  pub most : n ≤ node_limit
  pub smaller : (k : ℕ) → 0 < k → k < n → get_or ps k 0 < k

pub tree : (n : ℕ) (ps : List ℕ) → tree_ok n ps ≡ true → Tree n ps
unfolding tree_ok
tree n ps h = record { least = leb-true _ _ w.0; most = most; smaller = smaller }
  where
    u : ((leb node_least n && leb n node_limit) ≡ true) × (all (parent_ok n ps) node_limit ≡ true)
    u = both _ _ h

    w : (leb node_least n ≡ true) × (leb n node_limit ≡ true)
    w = both _ _ u.0

    most : n ≤ node_limit
    most = leb-true _ _ w.1

    smaller : (k : ℕ) → 0 < k → k < n → get_or ps k 0 < k
    smaller k a b = go (either _ _ (all_at (parent_ok n ps) node_limit k u.1 (omega (arith, most))))
      where
        inner : (eqb k 0 ≡ true) ⊎ (leb n k ≡ true) → get_or ps k 0 < k
        inner (inl e) = let f : k ≡ 0 = eqb-true _ _ e in absurd (omega arith)
        inner (inr e) = let f : n ≤ k = leb-true _ _ e in absurd (omega arith)

        go : ((eqb k 0 || leb n k) ≡ true) ⊎ (ltb (get_or ps k 0) k ≡ true) → get_or ps k 0 < k
        go (inl e) = inner (either _ _ e)
        go (inr e) = ltb-true _ _ e

-- what number 3 lets through
pub record Known (s : State) (e : Event) : Type 0 where
  pub kind : is_kind e.kind ≡ true
  pub inside : e.node < s.count
  pub other : other_fits (kind_of e.kind).row.other (is_child s e.node e.other) e.other ≡ true

pub known : (s : State) (e : Event) → event_ok s e ≡ true → Known s e
unfolding event_ok
known s e h =
    let u = both _ (value_fits (kind_of e.kind).row.value e.value) h in
    let w = both _ (other_fits (kind_of e.kind).row.other (is_child s e.node e.other) e.other) u.0 in
    let v = both (is_kind e.kind) _ w.0 in
    record { kind = v.0; inside = ltb-true _ _ v.1; other = w.1 }

-- what number 5 lets through
pub record Turn (s : State) (e : Event) : Type 0 where
  pub there : link_there (kind_of e.kind).row.end (is_child s e.node (end_at s e)) ≡ true
  pub needs : (kind_of e.kind).needs (scene_at s e) e ≡ true

pub in_turn : (s : State) (e : Event) → turn_ok s e ≡ true → Turn s e
unfolding turn_ok
in_turn s e h = let u = both (link_there (kind_of e.kind).row.end (is_child s e.node (end_at s e))) _ h in record { there = u.0; needs = u.1 }

-- a list of refusals of which none applies
pub passes : (r : Refusal) (rs : List Refusal) → r.number ≢ accepts → first_of (r ∷ rs) ≡ accepts → (r.applies ≡ false) × (first_of rs ≡ accepts)
unfolding first_of
passes r rs n = by_test (λ (k : ℕ). k ≡ accepts → (r.applies ≡ false) × (first_of rs ≡ accepts)) r.applies _ _ (λ _ h. absurd (n h)) (λ e h. (e, h))

-- an answer has the number that it was given for
pub number_of : (n : ℕ) (s : State) (e : Event) → (answer_of n s e).number ≡ n
unfolding answer_of
number_of n s e = by_test (λ (a : Answer). a.number ≡ n) (eqb n accepts) _ _ (λ h. sym (eqb-true n accepts h)) (λ _. refl)

-- an accepted one has the next configuration and the kind's value
pub given : (n : ℕ) (s : State) (e : Event) → n ≡ accepts → ((answer_of n s e).state ≡ next_of s e) × ((answer_of n s e).value ≡ value_of s e)
unfolding answer_of choose
given n s e h = rw h (refl, refl)

-- what an accepted step has passed: its event, its place and its needs
pub record Taken (s : State) (e : Event) : Type 0 where
  pub event : event_ok s e ≡ true
  pub place : place_ok s e ≡ true
  pub turn : Turn s e

pub taken : (s : State) (e : Event) → first_of (event_refusals s e) ≡ accepts → Taken s e
taken s e h =
    let a = passes _ _ (λ z. omega arith) h in
    let b = passes _ _ (λ z. omega arith) a.1 in
    let c = passes _ [] (λ z. omega arith) b.1 in
    record { event = not-false _ a.0; place = not-false _ b.0; turn = in_turn s e (not-false _ c.0) }

-- an accepted step of a configuration on a good tree
pub record Stepped (s : State) (e : Event) : Type 0 where
  pub tree : good_tree s ≡ true
  pub configuration : configuration_ok s ≡ true
  pub taken : Taken s e
  pub next : (step_of s e).state ≡ next_of s e
  pub value : (step_of s e).value ≡ value_of s e

pub step_taken : (s : State) (e : Event) → (step_of s e).number ≡ accepts → Stepped s e
unfolding step_of
step_taken s e h =
    let z = sym (number_of (first_of (refusals s e)) s e) ∙ h in
    let a = passes _ _ (λ z. omega arith) z in
    let b = passes _ _ (λ z. omega arith) a.1 in
    let g = given (first_of (refusals s e)) s e z in
    record { tree = not-false _ a.0; configuration = not-false _ b.0; taken = taken s e b.1; next = g.0; value = g.1 }

-- the same of the step without number 2
pub record Moved (s : State) (e : Event) : Type 0 where
  pub tree : good_tree s ≡ true
  pub taken : Taken s e
  pub next : (onward_of s e).state ≡ next_of s e

pub onward_taken : (s : State) (e : Event) → (onward_of s e).number ≡ accepts → Moved s e
unfolding onward_of
onward_taken s e h =
    let z = sym (number_of _ s e) ∙ h in
    let a = passes _ (event_refusals s e) (λ z. omega arith) z in
    record { tree = not-false _ a.0; taken = taken s e a.1; next = (given _ s e z).0 }

-- whose link a kind acts on, and the configuration after it
abbrev pub link_of : Kind → State → Event → ℕ
link_of k s e = end_of k.row.end (node s e.node) e.node e.other

abbrev pub done : Kind → State → Event → State
done k s e = done_by k s e (link_of k s e) (scene_of s e.node (link_of k s e))

-- a fact for each kind of a list
infixr 5 ◌also◌
pub data Every (P : Kind → Type 0) : List Kind → Type 0 where
  end : Every P []
  ◌also◌ : {k : Kind} {ks : List Kind} → P k → Every P ks → Every P (k ∷ ks)

-- and so for the kind with a number of the list
pub numbered_in : (P : Kind → Type 0) (ks : List Kind) → Every P ks → (n : ℕ) → listed ks n ≡ true → (n ≡ (numbered ks n).number) × P (numbered ks n)
unfolding listed numbered
numbered_in P [] w n h = absurd (false≢true h)
numbered_in P (k ∷ ks) (p also w) n h =
    by_test (λ (r : Kind). (n ≡ r.number) × P r) (eqb n k.number) k (numbered ks n) (λ e. (eqb-true n k.number e, p)) λ e.
    numbered_in P ks w n (rw e at h)

pub by_kind : (P : Kind → Type 0) → Every P kinds → (n : ℕ) → is_kind n ≡ true → (n ≡ (kind_of n).number) × P (kind_of n)
by_kind P w n h = numbered_in P kinds w n h
