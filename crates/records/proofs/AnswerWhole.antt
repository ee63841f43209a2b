-- An answer's bytes fill its array.
use mathlib.Core.Path.{◌≡◌, ◌∙◌, sym}
use mathlib.Core.List.{List, map}
use Prim.Native.Nat.{ℕ}
use native.Mathlib.Omega.{arith}
use lib.ListN.{length, length-append, length-map}
use Rattle.rules.specs.declared.State.{State}
use Rattle.octets.specs.Written.{Wrote, Adds}
use Rattle.octets.specs.declared.page.Page.{Page}
use Rattle.octets.proofs.BytesRead.{length_bytes}
use Rattle.octets.proofs.BytesWritten.{wrote_whole}
use Rattle.octets.proofs.Pages.{adds_wrote}
use Rattle.records.specs.AnswerBytes.{answer_size, answer_bytes}
use Rattle.records.proofs.Sizes.{Sized, state_size_lem}

-- an array of structs is as long as the list of their values
pub mapped_long : (X Y : Type 0) (f : X → Y) (l : List X) (n : ℕ) → length (map f l) ≡ n → length l ≡ n
mapped_long X Y f l n e = sym (length-map l f) ∙ e

answer_size_lem : (n v : ℕ) (s : State) → Sized s → length (answer_bytes n v s) ≡ answer_size
unfolding answer_bytes
answer_size_lem n v s z = simp length-append (omega (arith, length_bytes 8 v, state_size_lem s z))

-- a page of that many bytes, written from its start
pub answer_whole : {p q : Page} (n v : ℕ) (s : State) → Sized s → Adds p (answer_bytes n v s) q → p.at ≡ 0 → length p.out.now ≡ answer_size → q.out.now ≡ answer_bytes n v s
answer_whole {p} {q} n v s z w e h =
    let f : Wrote p.out.now 0 (answer_bytes n v s) q.out.now q.at = rw e at (adds_wrote w) in
    wrote_whole (answer_bytes n v s) f (omega (arith, answer_size_lem n v s z))
