-- Bytes and numbers read from the rest of a slice, and a number read back from its bytes.
use mathlib.Core.Path.{◌≡◌, refl, ◌∙◌, sym}
use mathlib.Core.List.{List, [], ◌∷◌, ◌++◌}
use Prim.Native.Nat.{ℕ, zero, suc, ◌+◌, ◌-◌, ◌/◌, ◌%◌, ◌^◌, ◌<◌, ◌≤◌}
use native.Mathlib.Nat.{zero-add, add_assoc, div-add-mod', div-lt_iff_lt-mul}
use native.Mathlib.Omega.{arith}
use lib.ListN.{length, take, drop, length-drop, length-append, drop_of_length-le, get_or-eq_default, get_or-append}
use lib.Seq.{take_all, drop-length, get_or-drop, get_or_at}
use Rattle.octets.specs.BigEndian.{byte, number, bytes_of}

-- what the rest from `at` on says
pub byte_rest : (s : List ℕ) (at k : ℕ) → byte (drop at s) k ≡ byte s (at + k)
byte_rest s at k = get_or-drop at s k 0

pub number_rest : (s : List ℕ) (at k n : ℕ) → number (drop at s) k n ≡ number s (at + k) n
unfolding number
number_rest s at k zero = refl
number_rest s at k (suc n) = rw (number_rest s at k n, byte_rest s at (k + n), add_assoc)

pub ruleset rests = (byte_rest, number_rest)

-- past the end
pub byte_missing : (s : List ℕ) (at : ℕ) → length s ≤ at → 0 ≡ byte s at
byte_missing s at h = sym (get_or-eq_default s 0 h)

-- the part of a slice from `at` on
pub rest_part : (s : List ℕ) (at : ℕ) → take (length s - at) (drop at s) ≡ drop at s
rest_part s at = take_all (length s - at) (drop at s) (rw length-drop (omega arith))

pub rest_missing : (s : List ℕ) (at : ℕ) → length s ≤ at → take (length s - length s) (drop (length s) s) ≡ drop at s
rest_missing s at h = rest_part s (length s) ∙ drop-length s ∙ sym (drop_of_length-le s h)

one_more : 0 < 256
one_more = omega arith

-- what is written is what is read
pub length_bytes : (n v : ℕ) → length (bytes_of n v) ≡ n
unfolding bytes_of
length_bytes zero v = refl
length_bytes (suc n) v = rw (length-append, length_bytes n (v / 256)) (omega arith)

number_front : (n : ℕ) (s t : List ℕ) → n ≤ length s → number (s ++ t) 0 n ≡ number s 0 n
unfolding number
number_front zero s t h = refl
number_front (suc n) s t h =
    rw (number_front n s t (omega arith), zero-add, get_or-append s t 0 n (omega arith))

pub number_bytes : (n v : ℕ) → v < 256 ^ n → number (bytes_of n v) 0 n ≡ v
unfolding number bytes_of
number_bytes zero v h = omega arith
number_bytes (suc n) v h =
    let high = bytes_of n (v / 256) in
    let m : length high ≡ n = length_bytes n (v / 256) in
    let small : v / 256 < 256 ^ n = (div-lt_iff_lt-mul one_more).1 (omega arith) in
    rw (number_front n high (v % 256 ∷ []) (omega arith), number_bytes n (v / 256) small, zero-add, get_or_at high (v % 256) [] 0 n m)
    (div-add-mod' v 256)
