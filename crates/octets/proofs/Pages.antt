-- Bytes put on a page, one after the other.
use mathlib.Core.Path.{◌≡◌, refl, ap, sym, ◌∙◌}
use mathlib.Core.List.{List, [], ◌∷◌, ◌++◌, flat_map}
use Prim.Native.Nat.{ℕ, ◌+◌, ◌<◌, min}
use native.Mathlib.Numerals.{add-one}
use native.Mathlib.Omega.{arith}
use lib.ListN.{length, take, get_or, length-append}
use lib.Seq.{take-suc, sets, length-sets}
use Rattle.octets.specs.declared.page.Page.{Page}
use Rattle.octets.specs.Written.{Wrote, Adds, standing, after}
use Rattle.octets.proofs.BytesWritten.{sets_next, flat_append, flat_one, wrote_once}

-- nothing; bytes, then others after them; a byte, then others
pub after_none : (s : Page) → after [] (standing s) ≡ standing s
unfolding after standing
after_none s = ap (λ (r : ℕ). (s.out.now, r)) (omega (arith, s.within))

pub after_append : (t u : List ℕ) (w : List ℕ × ℕ) → after (t ++ u) w ≡ after u (after t w)
unfolding after
after_append t u w = sym (rw (sets_next w.0 w.1 t u _ refl, length-sets, length-append) (ap (λ (r : ℕ). (sets w.0 w.1 (t ++ u), r)) (omega arith)))

pub after_cons : (b : ℕ) (t : List ℕ) (w : List ℕ × ℕ) → after (b ∷ t) w ≡ after t (after (b ∷ []) w)
after_cons b t w = after_append (b ∷ []) t w

pub ruleset puts = (after_none, after_append, after_cons)

-- a loop that puts the elements of a list, each in its bytes
module _ {A : Type 0} (f : A → List ℕ) where
  pub each_none : (s : Page) → after (flat_map f []) (standing s) ≡ standing s
  unfolding flat_map
  each_none s = after_none s

  pub after_last : (l : List A) (x : A) (w : List ℕ × ℕ) → after (flat_map f (l ++ (x ∷ []))) w ≡ after (f x) (after (flat_map f l) w)
  after_last l x w = rw (flat_append, flat_one) (after_append (flat_map f l) (f x) w)

  pub each_more : (l : List A) (k : ℕ) (d : A) (w : List ℕ × ℕ) → k < length l → after (flat_map f (take (k + 1) l)) w ≡ after (f (get_or l k d)) (after (flat_map f (take k l)) w)
  each_more l k d w h = rw (add-one, take-suc l k d h) (after_last (take k l) (get_or l k d) w)

pub ruleset each = (each_none, each_more)

-- a page's promise is that of its buffer and its place
pub adds_wrote : {s e : Page} {t : List ℕ} → Adds s t e → Wrote s.out.now s.at t e.out.now e.at
unfolding after standing
adds_wrote w = record { buffer = ap (λ (p : List ℕ × ℕ). p.0) w.text; next = ap (λ (p : List ℕ × ℕ). p.1) w.text }

-- it leaves one buffer and one place
pub adds_once : {s d e : Page} {t : List ℕ} → Adds s t d → Adds s t e → (d.out.now ≡ e.out.now) × (d.at ≡ e.at)
adds_once f g = wrote_once (adds_wrote f) (adds_wrote g)

-- one text, then another
pub adds_then : {s d e : Page} (t u : List ℕ) → Adds s t d → Adds d u e → Adds s (t ++ u) e
adds_then {s} t u f g = record { same_buffer = g.same_buffer ∙ f.same_buffer; text = g.text ∙ rw f.text (sym (after_append t u (standing s))) }

-- the same of a page that begins after any place, also one past the buffer's end
pub after_wrote : {s e : Page} {t o : List ℕ} {at : ℕ} → s.out.now ≡ o → s.at ≡ min at (length o) → Adds s t e → Wrote o at t e.out.now e.at
after_wrote {s} {e} {t} {o} {at} f g w = past (rw (f, g) at (adds_wrote w))
  where
    past : Wrote o (min at (length o)) t e.out.now e.at → Wrote o at t e.out.now e.at
    past v = record { buffer = v.buffer ∙ sets_next o at [] t (min at (length o)) (omega arith); next = omega (arith, v.next) }
