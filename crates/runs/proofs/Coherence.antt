-- A run of the code is coherent, by the promises of the code.
use mathlib.Core.Path.{◌≡◌, sym, ◌∙◌, ap, subst}
use Prim.Native.Nat.{ℕ}
use Rattle.rules.specs.Codes.{accepts}
use Rattle.rules.specs.Step.{step_of}
use Rattle.rules.specs.declared.State.{State}
use Rattle.rules.specs.declared.Event.{Event}
use Rattle.laws.proofs.Onward.{step_is_onward}
use Rattle.coherence.specs.Reached.{Reached, start, next, last_of}
use Rattle.coherence.specs.Coherent.{Coherent}
use Rattle.coherence.proofs.Theorem.Theorem.{coherent, reached_configuration}
use Rattle.model.specs.Outcomes.{outcome_of}
use Rattle.model.specs.declared.Config.{Config}
use Rattle.model.specs.declared.Outcome.{Outcome}
use Rattle.runs.specs.Run.{Run, by_reset, by_step, by_onward}

-- a step of the code is a step of the definitions
stepped : (s : State) (v : ℕ) (e : Event) (a : Outcome) → Reached s v → a ≡ outcome_of (step_of s e) → a.number ≡ accepts → Reached a.config.state (last_of e v)
stepped s v e a r p h =
    subst (λ (b : Outcome). Reached b.config.state (last_of e v)) (sym p) (next s v e r (sym (ap (λ (b : Outcome). b.number) p) ∙ h))

-- what a run of the code reaches is reached from reset by accepted steps
pub run_reached : {c : Config} {v : ℕ} → Run c v → Reached c.state v
run_reached (by_reset n ps v a p h) =
    subst (λ (b : Outcome). Reached b.config.state v) (sym p) (start n ps v (sym (ap (λ (b : Outcome). b.number) p) ∙ h))
run_reached (by_step c v e a r p h) = stepped c.state v e a (run_reached r) p h
run_reached (by_onward c v e a r p h) =
    let q = run_reached r in
    stepped c.state v e a q (p ∙ ap outcome_of (sym (step_is_onward c.state e (reached_configuration q)))) h

-- demand 3 of the code
pub run_coherent : {c : Config} {v : ℕ} → Run c v → Coherent c.state v
run_coherent r = coherent (run_reached r)
