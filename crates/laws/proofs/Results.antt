-- What the code answers as a Result says as much as a number and a value: two Results with one answer are one.
use mathlib.Core.Path.{◌≡◌, refl, sym, ◌∙◌, ap}
use mathlib.Core.HLevel.{is_prop→PathP, Unit-prop}
use mathlib.Core.Logic.{◌≢◌}
use Prim.Native.Nat.{ℕ, zero, suc, ◌<◌}
use native.Mathlib.Bridge.{le_prop}
use native.Mathlib.Omega.{arith}
use Rattle.std.specs.Prelude.{Result, Ok, Err, Some, None}
use Rattle.rules.specs.Codes.{node_limit, accepts}
use Rattle.rules.specs.Refusals.{number_of, answer_said, reset_said}
use Rattle.rules.specs.declared.State.{State}
use Rattle.rules.specs.declared.Answer.{Answer}
use Rattle.rules.specs.declared.Refusal.{Refusal}
use Rattle.rules.specs.declared.Refusal.TheVariants.{BadTree, NotAConfiguration, BadEvent, WrongPlace, OutOfTurn}
use Rattle.laws.specs.Once.{OneJudged, OneIndex, OnePlace}

-- the number of a refusal is never that of an accepted event
pub has_number : (r : Refusal) → number_of r ≢ accepts
has_number BadTree h = omega arith
has_number NotAConfiguration h = omega arith
has_number BadEvent h = omega arith
has_number WrongPlace h = omega arith
has_number OutOfTurn h = omega arith

-- the refusal with a number
refusal_with : ℕ → Refusal
refusal_with (suc zero) = BadTree
refusal_with (suc (suc zero)) = NotAConfiguration
refusal_with (suc (suc (suc zero))) = BadEvent
refusal_with (suc (suc (suc (suc zero)))) = WrongPlace
refusal_with n = OutOfTurn

with_number : (r : Refusal) → refusal_with (number_of r) ≡ r
unfolding refusal_with
with_number BadTree = refl
with_number NotAConfiguration = refl
with_number BadEvent = refl
with_number WrongPlace = refl
with_number OutOfTurn = refl

pub one_number : {r q : Refusal} → number_of r ≡ number_of q → r ≡ q
one_number {r} {q} h = sym (with_number r) ∙ ap refusal_with h ∙ with_number q

-- of an event that is only judged: nothing is said but the number
pub one_judged : OneJudged
one_judged (Ok v) (Ok w) h = ap Ok (Unit-prop v w)
one_judged (Ok v) (Err q) h = absurd (has_number q (omega (arith, h)))
one_judged (Err r) (Ok w) h = absurd (has_number r (omega (arith, h)))
one_judged (Err r) (Err q) h = ap Err (one_number (omega (arith, h)))

pub one_result : (r q : Result ℕ Refusal) {s t : State} → answer_said r s ≡ answer_said q t → (r ≡ q) × (s ≡ t)
one_result (Ok v) (Ok w) h = (ap (λ (a : Answer). Ok a.value) h, ap (λ (a : Answer). a.state) h)
one_result (Ok v) (Err q) h = absurd (has_number q (sym (ap (λ (a : Answer). a.number) h)))
one_result (Err r) (Ok w) h = absurd (has_number r (ap (λ (a : Answer). a.number) h))
one_result (Err r) (Err q) h = (ap Err (one_number (ap (λ (a : Answer). a.number) h)), ap (λ (a : Answer). a.state) h)

pub one_reset : (r q : Result State Refusal) → reset_said r ≡ reset_said q → r ≡ q
one_reset (Ok s) (Ok t) h = ap (λ (a : Answer). Ok a.state) h
one_reset (Ok s) (Err q) h = absurd (has_number q (sym (ap (λ (a : Answer). a.number) h)))
one_reset (Err r) (Ok t) h = absurd (has_number r (ap (λ (a : Answer). a.number) h))
one_reset (Err r) (Err q) h = ap Err (one_number (ap (λ (a : Answer). a.number) h))

-- a place in the arrays is its number
pub one_index : OneIndex
one_index x y h = λ i. record { at = h i; within = is_prop→PathP (λ j. h j < node_limit) (λ j. le_prop) x.within y.within i }

pub one_place : OnePlace
one_place k None None h f = refl
one_place k None (Some y) h f = absurd (omega (arith, y.within))
one_place k (Some x) None h f = absurd (omega (arith, x.within))
one_place k (Some x) (Some y) h f = ap Some (one_index x y (omega (arith, h, f)))
