-- Bytes written into a lent buffer, one after the other.
use Rattle.std.specs.Prelude.{List, ◌≡◌, ℕ, ◌+◌, min, length}
use Rattle.std.proofs.lemmas.List.Edits.{sets}
use Rattle.octets.specs.declared.page.Page.{Page}

-- t stands in the buffer from `at` on, as far as the buffer goes; all else is as it was; r is the place after t, or the buffer's end
pub record Wrote (old : List ℕ) (at : ℕ) (t : List ℕ) (new : List ℕ) (r : ℕ) : Type 0 where
  pub buffer : new ≡ sets old at t
  pub next : r ≡ min (at + length t) (length old)

-- a page's buffer, and how far it is written
unfoldable pub standing : Page → List ℕ × ℕ
standing s = (s.out.now, s.at)

-- the same after t is put there
unfoldable pub after : List ℕ → List ℕ × ℕ → List ℕ × ℕ
after t w = (sets w.0 w.1 t, min (w.1 + length t) (length w.0))

-- t is put on the page, which goes on lending that buffer
pub record Adds (old : Page) (t : List ℕ) (new : Page) : Type 0 where
  pub same_buffer : new.out.ghost_name ≡ old.out.ghost_name
  pub text : standing new ≡ after t (standing old)
