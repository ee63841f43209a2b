-- Kind 1, load, keeps the invariant: it writes what stood there.
use mathlib.Core.Path.{◌≡◌}
use mathlib.Core.Bool.{true}
use Prim.Native.Nat.{ℕ, ◌<◌}
use Rattle.rules.specs.Configuration.{configuration_ok}
use Rattle.rules.specs.declared.State.{State}
use Rattle.rules.specs.declared.Event.{Event}
use Rattle.writes.proofs.Effects.{LoadWrites}
use Rattle.coherence.proofs.Invariant.Clauses.{Inv}
use Rattle.coherence.proofs.Invariant.Frame.{own_step}
use Rattle.coherence.proofs.Invariant.Here.{child_ok_lem}

pub load_keeps : {s : State} {v : ℕ} (e : Event) → Inv s v → {x : ℕ} → x < s.count → (t : State) → LoadWrites s e x t → configuration_ok t ≡ true → Inv t v
load_keeps e i {x} inside t w valid = own_step i inside w valid (i.nodes x inside) (λ pos. i.links x pos inside) (λ k c. child_ok_lem i c)
