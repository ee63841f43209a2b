-- Lines put together from what was written, and how long they are.
use mathlib.Core.Path.{◌≡◌, refl}
use mathlib.Core.List.{List, [], ◌∷◌, flat_map}
use Prim.Native.Nat.{ℕ, suc, ◌+◌, ◌*◌, ◌^◌, ◌<◌, ◌≤◌, zero, min}
use native.Mathlib.Numerals.{add-one}
use native.Mathlib.Omega.{arith}
use lib.ListN.{length, length-append, get_or-eq_default}
use Rattle.rules.specs.Names.{name_by}
use Rattle.octets.specs.Written.{Wrote, Adds, standing, after}
use Rattle.octets.specs.declared.page.Page.{Page}
use Rattle.octets.proofs.Pages.{after_last, each_none, adds_wrote}
use Rattle.lines.specs.Lines.{space, newline, field, asked, line, name_text, name_texts, name_line, names_by, end_line, bad_line}
use Rattle.lines.proofs.Decimal.{spelled_short}

-- the names of the first x nodes: none, and one more
pub names_none : (rs es : List ℕ) (s : Page) → after (name_line (names_by rs es 0)) (standing s) ≡ standing s
unfolding names_by
names_none rs es s = each_none name_text s

pub names_more : (rs es : List ℕ) (x : ℕ) (w : List ℕ × ℕ) → after (name_line (names_by rs es (x + 1))) w ≡ after (name_text (name_by rs es x)) (after (name_line (names_by rs es x)) w)
unfolding names_by
names_more rs es x w = rw add-one (after_last name_text (names_by rs es x) (name_by rs es x) w)

pub ruleset naming = (names_none, names_more)

-- the name of the code k, and no name
pub name_wrote : {a b : List ℕ} {at r k n : ℕ} → n ≡ k → Wrote a at (name_text k) b r → Wrote a at (name_text n) b r
name_wrote e f = rw e f

unnamed : (n : ℕ) → 5 ≤ n → name_text n ≡ []
unfolding name_text
unnamed n h = get_or-eq_default name_texts [] h

pub unnamed_wrote : (n : ℕ) (a : List ℕ) (at : ℕ) {p : ℕ} → 5 ≤ n → p ≡ min at (length a) → Wrote a at (name_text n) a p
unnamed_wrote n a at h e = rw (unnamed n h) (record { buffer = refl; next = omega arith })

-- a number below 10 ^ j and what follows it
field_short : (j n after : ℕ) → 1 ≤ j → n < 10 ^ j → length (field n after) ≤ j + 1
unfolding field
field_short j n after o h = rw length-append (omega (arith, spelled_short j 20 n o h))

line_short : (i k x n v : ℕ) → i < 100000 → k < 256 → x < 256 → n < 256 → v < 2 ^ 64 → length (line i k x n v) ≤ 39
unfolding line asked
line_short i k x n v hi hk hx hn hv =
    simp length-append (omega (arith, field_short 5 i space (omega arith) (omega arith), field_short 3 k space (omega arith) (omega arith), field_short 3 x space (omega arith) (omega arith), field_short 3 n space (omega arith) (omega arith), field_short 20 v newline (omega arith) (omega arith)))

bad_short : (p : ℕ) → p < 2 ^ 64 → length (bad_line p) ≤ 25
unfolding bad_line
bad_short p h = rw length-append (omega (arith, field_short 20 p newline (omega arith) (omega arith)))

name_short : (n : ℕ) → length (name_text n) ≤ 3
unfolding name_text
name_short zero = omega arith
name_short (suc zero) = omega arith
name_short (suc (suc zero)) = omega arith
name_short (suc (suc (suc zero))) = omega arith
name_short (suc (suc (suc (suc zero)))) = omega arith
name_short (suc (suc (suc (suc (suc n))))) = omega arith

names_short : (l : List ℕ) → length (name_line l) ≤ 3 * length l
unfolding flat_map
names_short [] = omega arith
names_short (n ∷ l) = rw length-append (omega (arith, names_short l, name_short n))

names_long : (rs es : List ℕ) (n : ℕ) → length (names_by rs es n) ≡ n
unfolding names_by
names_long rs es zero = refl
names_long rs es (suc n) = rw (length-append, names_long rs es n) (omega arith)

end_short : (l : List ℕ) → length (end_line l) ≤ 3 * length l + 4
unfolding end_line
end_short l = simp length-append (omega (arith, names_short l))

-- how far each line reaches
module _ {s e : Page} where
  pub line_near : (i k x n v : ℕ) → Adds s (line i k x n v) e → i < 100000 → k < 256 → x < 256 → n < 256 → v < 2 ^ 64 → e.at ≤ s.at + 39
  line_near i k x n v w hi hk hx hn hv =
      let f = adds_wrote w in
      omega (arith, f.next, line_short i k x n v hi hk hx hn hv)

  pub bad_near : (p : ℕ) → Adds s (bad_line p) e → p < 2 ^ 64 → e.at ≤ s.at + 800
  bad_near p w h = let f = adds_wrote w in omega (arith, f.next, bad_short p h)

  pub end_near : (rs es : List ℕ) (n : ℕ) → Adds s (end_line (names_by rs es n)) e → n < 256 → e.at ≤ s.at + 800
  end_near rs es n w h =
      let f = adds_wrote w in
      omega (arith, f.next, end_short (names_by rs es n), names_long rs es n)
