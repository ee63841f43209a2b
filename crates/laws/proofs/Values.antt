-- "The answer value is the load's, else 0."
use mathlib.Core.Path.{◌≡◌, refl}
use mathlib.Core.Bool.{Bool, true, ◌&&◌, ◌||◌}
use mathlib.Core.Logic.{◌≢◌, ◌⊎◌, inl, inr}
use mathlib.Core.List.{List, [], ◌∷◌}
use Prim.Native.Nat.{ℕ}
use borrow.Author.Tests.{eqb-true, eqb-false}
use lib.Dec.{eqb}
use Rattle.words.specs.Vocab.{choose}
use Rattle.words.proofs.Facts.{both, either, by_test}
use Rattle.rules.specs.Codes.{accepts}
use Rattle.rules.specs.Kinds.{kind_load}
use Rattle.rules.specs.Cells.{value}
use Rattle.rules.specs.Table.{Kind, kinds, numbered}
use Rattle.rules.specs.Step.{scene_at, value_of, first_of, refusals, answer_of, step_of}
use Rattle.rules.specs.declared.State.{State}
use Rattle.rules.specs.declared.Scene.{Scene}
use Rattle.rules.specs.declared.Event.{Event}
use Rattle.rules.specs.declared.Answer.{Answer}

-- each kind of the list but the load says 0
abbrev silent : Scene → List Kind → Bool
silent v [] = true
silent v (k ∷ ks) = (eqb k.number kind_load || eqb (k.says v) 0) && silent v ks

numbered_silent : (v : Scene) (ks : List Kind) (n : ℕ) → silent v ks ≡ true → n ≢ kind_load → (numbered ks n).says v ≡ 0
unfolding numbered
numbered_silent v [] n h o = refl
numbered_silent v (k ∷ ks) n h o =
    let u = both (eqb k.number kind_load || eqb (k.says v) 0) (silent v ks) h in
    by_test (λ (r : Kind). r.says v ≡ 0) (eqb n k.number) k (numbered ks n)
    (λ e. go (eqb-true n k.number e) (either _ _ u.0)) (λ _. numbered_silent v ks n u.1 o)
  where
    go : n ≡ k.number → (eqb k.number kind_load ≡ true) ⊎ (eqb (k.says v) 0 ≡ true) → k.says v ≡ 0
    go e (inl q) = absurd (o (rw e (eqb-true k.number kind_load q)))
    go e (inr q) = eqb-true (k.says v) 0 q

pub value_zero : (s : State) (e : Event) → e.kind ≢ kind_load → (step_of s e).value ≡ 0
unfolding step_of answer_of value_of
value_zero s e o = by_test (λ (a : Answer). a.value ≡ 0) _ _ _ (λ _. numbered_silent (scene_at s e) kinds e.kind refl o) (λ _. refl)

load_says : (s : State) (e : Event) → e.kind ≡ kind_load → value_of s e ≡ value s e.node
unfolding value_of numbered choose
load_says s e k = rw k

pub value_loaded : (s : State) (e : Event) → e.kind ≡ kind_load → (step_of s e).number ≡ accepts → (step_of s e).value ≡ value s e.node
unfolding step_of answer_of
value_loaded s e k =
    by_test (λ (a : Answer). a.number ≡ accepts → a.value ≡ value s e.node) (eqb (first_of (refusals s e)) accepts) _ _
    (λ _ _. load_says s e k) (λ f h. absurd (eqb-false (first_of (refusals s e)) accepts f h))
