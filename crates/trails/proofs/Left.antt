-- What is left to write of a text, over a buffer and the place from which it is written.
use mathlib.Core.List.{List}
use Prim.Native.Nat.{ℕ}
use Rattle.octets.specs.Written.{Wrote, Adds}
use Rattle.octets.specs.declared.page.Page.{Page}
use Rattle.octets.proofs.Pages.{adds_wrote}

-- the rest, written from p on, makes t of what stood in the buffer at first
pub record Left (o₀ t o : List ℕ) (p : ℕ) (rest : List ℕ) : Type 0 where
  pub then : {o' : List ℕ} {r : ℕ} → Wrote o p rest o' r → Wrote o₀ 0 t o' r

pub left_all : (o t : List ℕ) → Left o t o 0 t
left_all o t = record { then = λ w. w }

-- what the code puts on a page is written in its buffer
pub left_put : {o₀ t rest : List ℕ} {s e : Page} → Left o₀ t s.out.now s.at rest → Adds s rest e → Wrote o₀ 0 t e.out.now e.at
left_put l w = l.then (adds_wrote w)
