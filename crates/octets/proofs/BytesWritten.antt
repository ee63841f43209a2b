-- Bytes written one after the other into one buffer.
use mathlib.Core.Path.{◌≡◌, refl, ◌∙◌, sym}
use mathlib.Core.List.{List, [], ◌∷◌, ◌++◌, append_assoc, append-nil, flat_map}
use Prim.Native.Nat.{ℕ, suc, ◌+◌, ◌-◌, ◌*◌, ◌<◌, ◌≤◌, min}
use native.Mathlib.Nat.{add-zero, div-div-eq-div-mul}
use native.Mathlib.Decide.{dec_lt}
use native.Mathlib.Omega.{arith}
use lib.ListN.{length, set, length-append, drop_of_length-le, take, drop}
use lib.Seq.{sets, sets-eq, set_out, length-sets, drop-drop}
use Rattle.std.proofs.lemmas.List.{length-take-le, take-append-drop, take_all}
use borrow.Rule.Slice.PartMut.{put_mid}
use Rattle.std.specs.Int.{to_be_bytes}
use mir.Syntax.{w64}
use Rattle.octets.specs.BigEndian.{bytes_of, word_bytes}
use Rattle.octets.specs.Written.{Wrote}

-- past the buffer's end nothing is written
sets_out : (l : List ℕ) (i : ℕ) (t : List ℕ) → length l ≤ i → sets l i t ≡ l
sets_out l i [] h = refl
sets_out l i (x ∷ t) h = rw (set_out l i x h) (sets_out l (suc i) t (omega arith))

-- bytes, then others after them, are both at once
sets_then : (l : List ℕ) (i : ℕ) (a b : List ℕ) → sets (sets l i a) (i + length a) b ≡ sets l i (a ++ b)
sets_then l i [] b = rw add-zero
sets_then l i (x ∷ a) b =
    let e : i + suc (length a) ≡ suc i + length a = omega arith in
    rw e (sets_then (set l i x) (suc i) a b)

pub sets_next : (l : List ℕ) (i : ℕ) (a b : List ℕ) (p : ℕ) → p ≡ min (i + length a) (length l) → sets (sets l i a) p b ≡ sets l i (a ++ b)
sets_next l i a b p e = go (dec_lt (length l) (i + length a))
  where
    go : Dec (length l < i + length a) → sets (sets l i a) p b ≡ sets l i (a ++ b)
    go (yes h) =
        sets_out (sets l i a) p b (omega (arith, length-sets l i a))
        ∙ sym (sets_out (sets l i a) (i + length a) b (omega (arith, length-sets l i a)))
        ∙ sets_then l i a b
    go (no h) = let q : p ≡ i + length a = omega arith in rw q (sets_then l i a b)

-- one text written, then another
pub wrote_then : {a b c : List ℕ} {at p r : ℕ} {t u : List ℕ} → Wrote a at t b p → Wrote b p u c r → Wrote a at (t ++ u) c r
wrote_then {a} {b} {c} {at} {p} {r} {t} {u} f g =
    record {
      buffer = g.buffer ∙ rw f.buffer (sets_next a at t u p f.next);
      next = g.next ∙ rw (f.next, f.buffer, length-sets, length-append) (omega arith);
    }

-- one byte, by a number equal to it
pub wrote_byte : {a b : List ℕ} {at r x y : ℕ} → x ≡ y → Wrote a at (x ∷ []) b r → Wrote a at (y ∷ []) b r
wrote_byte e w = rw e at w

-- the bytes that fit, copied at once
pub put_part : (l t : List ℕ) (i n : ℕ) {k : ℕ} {u : List ℕ} → i ≤ length l → n ≡ min (length t) (length l - i) → k ≡ n → u ≡ take n t → put_mid i k l u ≡ sets l i t
put_part l t i n h e f g =
    let m : length (take n t) ≡ n = length-take-le n t (omega arith) in
    let whole : take i l ++ take n t ++ drop (i + n) l ≡ sets l i (take n t) = sym (rw m at (sets-eq (take n t) l i (omega arith))) in
    let rest : sets (sets l i (take n t)) (i + n) (drop n t) ≡ sets l i t = rw m at (sets_then l i (take n t) (drop n t)) ∙ rw take-append-drop in
    rw (f, g, drop-drop, ← append_assoc) (whole ∙ sym (none (dec_lt n (length t)) m) ∙ rest)
  where
    none : Dec (n < length t) → length (take n t) ≡ n → sets (sets l i (take n t)) (i + n) (drop n t) ≡ sets l i (take n t)
    none (yes j) m = sets_out (sets l i (take n t)) (i + n) (drop n t) (omega (arith, length-sets l i (take n t)))
    none (no j) m = let all : length t ≤ n = omega arith in rw (drop_of_length-le t all)

-- the same of bytes that all fit
pub put_all : (l t : List ℕ) (i : ℕ) {k : ℕ} {u : List ℕ} → i ≤ length l → length t ≤ length l - i → k ≡ length t → u ≡ t → put_mid i k l u ≡ sets l i t
put_all l t i h e f g = put_part l t i (length t) h (omega (arith, e)) f (g ∙ sym (take_all (length t) t (omega arith)))

-- the elements of a list, each in its bytes
module _ {A : Type 0} (f : A → List ℕ) where
  pub flat_append : (l m : List A) → flat_map f (l ++ m) ≡ flat_map f l ++ flat_map f m
  unfolding flat_map
  flat_append [] m = refl
  flat_append (x ∷ l) m = rw (flat_append l m, append_assoc)

  pub flat_one : (x : A) → flat_map f (x ∷ []) ≡ f x
  unfolding flat_map
  flat_one x = append-nil (f x)

  pub flat_length : (n : ℕ) → ((x : A) → length (f x) ≡ n) → (l : List A) → length (flat_map f l) ≡ length l * n
  unfolding flat_map
  flat_length n h [] = omega arith
  flat_length n h (x ∷ l) = rw (length-append, h x, flat_length n h l) (omega arith)

-- a buffer that is written whole
pub wrote_whole : {a b : List ℕ} {r : ℕ} (t : List ℕ) → Wrote a 0 t b r → length t ≡ length a → b ≡ t
wrote_whole {a} t w e =
    let h : length a ≤ 0 + length t = omega arith in
    w.buffer ∙ sets-eq t a 0 (omega arith) ∙ rw (drop_of_length-le a h) (append-nil t)

-- the promise leaves one buffer and one place
pub wrote_once : {a b c : List ℕ} {at p r : ℕ} {t : List ℕ} → Wrote a at t b p → Wrote a at t c r → (b ≡ c) × (p ≡ r)
wrote_once f g = (f.buffer ∙ sym g.buffer, f.next ∙ sym g.next)

-- the eight bytes that std gives are those of the definition
pub big_endian : (v : ℕ) → to_be_bytes w64 v ≡ word_bytes v
unfolding bytes_of
big_endian v = simp (div-div-eq-div-mul)
