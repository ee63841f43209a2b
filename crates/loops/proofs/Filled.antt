-- A row that is written whole.
use mathlib.Core.Path.{◌≡◌, ◌∙◌, sym, refl}
use mathlib.Core.List.{List, map, [], ◌∷◌}
use Rattle.std.specs.List.{range_with_len}
use Prim.Native.Nat.{ℕ}
use native.Mathlib.Nat.{zero-add}
use native.Mathlib.Omega.{arith}
use lib.ListN.{length}
use Rattle.words.specs.Vocab.{fill}
use Rattle.words.proofs.Facts.{get_or_fill_at}
use Rattle.words.proofs.Meeting.{length_fill}
use Rattle.std.proofs.lemmas.List.FromFn.{fill_by_all}

-- what stood there before does not matter
pub same_fill : {A : Type 0} (p : ℕ → A) (n : ℕ) (l m : List A) → length l ≡ n → length m ≡ n → fill p 0 n l ≡ fill p 0 n m
same_fill p n [] [] h g = refl
same_fill p n [] (d ∷ m) h g = absurd (omega arith)
same_fill {A} p n (d ∷ l) m h g = whole (d ∷ l) h ∙ sym (whole m g)
  where
    whole : (m : List A) → length m ≡ n → fill p 0 n m ≡ map p (range_with_len 0 n)
    whole m g = fill_by_all p (fill p 0 n m) n d (length_fill p 0 n m ∙ g) (λ k b. rw zero-add at (get_or_fill_at p 0 n m d k (omega arith) b))
