-- A list with one element written, and a table with one row written: what stands where, and that nothing else moved.
use mathlib.Core.Path.{◌≡◌, refl, ◌∙◌}
use mathlib.Core.Logic.{◌≢◌}
use mathlib.Core.List.{List}
use Prim.Native.Nat.{ℕ, ◌+◌, ◌*◌, ◌<◌, ◌≤◌}
use native.Mathlib.Decide.{ℕ_discrete}
use native.Mathlib.Omega.{arith}
use lib.ListN.{get_or, set, length, length-set}
use lib.Seq.{get_or-set_same, get_or-set_other}
use lib.Dec.{eqb}
use Rattle.words.specs.Vocab.{fill, choose}
use Rattle.words.proofs.Meeting.{length_fill}
use Rattle.words.proofs.Facts.{choose_at, choose_off, get_or_fill_at, get_or_fill_off}
use Rattle.rules.specs.Codes.{node_limit, cells}
use Rattle.rules.specs.Cells.{cell}

module _ {A : Type 0} where
  -- l' is l with v at x
  pub record Put (d : A) (l l' : List A) (x : ℕ) (v : A) : Type 0 where
    pub at : get_or l' x d ≡ v
    pub off : (y : ℕ) → y ≢ x → get_or l' y d ≡ get_or l y d
    pub size : length l' ≡ length l

  pub same : (d : A) (l : List A) (x : ℕ) → Put d l l x (get_or l x d)
  same d l x = record { at = refl; off = λ y n. refl; size = refl }

  pub put : (d : A) (l : List A) (x : ℕ) (v : A) → x < length l → Put d l (set l x v) x v
  put d l x v h = record { at = get_or-set_same l x v d h; off = λ y n. get_or-set_other l x y v d n; size = length-set l x v }

  -- t' is t with the row of x as f says
  pub record Row (d : A) (t t' : List A) (x : ℕ) (f : ℕ → A) : Type 0 where
    pub at : (k : ℕ) → k < node_limit → get_or t' (cell x k) d ≡ f k
    pub off : (y k : ℕ) → k < node_limit → y ≢ x → get_or t' (cell y k) d ≡ get_or t (cell y k) d
    pub size : length t' ≡ length t

  pub row_same : (d : A) (t : List A) (x : ℕ) → Row d t t x (λ k. get_or t (cell x k) d)
  row_same d t x = record { at = λ k m. refl; off = λ y k m n. refl; size = refl }

  -- one cell written
  pub row_put : (d : A) (t : List A) (x k : ℕ) (v : A) → length t ≡ cells → x < node_limit → k < node_limit
      → Row d t (set t (cell x k) v) x (λ j. choose (eqb j k) v (get_or t (cell x j) d))
  row_put d t x k v s hx hk = record { at = at; off = off; size = length-set t (cell x k) v }
    where
      b : cell x k < length t
      b = omega arith

      at : (j : ℕ) → j < node_limit → get_or (set t (cell x k) v) (cell x j) d ≡ choose (eqb j k) v (get_or t (cell x j) d)
      at j hj = go (ℕ_discrete j k)
        where
          go : Dec (j ≡ k) → get_or (set t (cell x k) v) (cell x j) d ≡ choose (eqb j k) v (get_or t (cell x j) d)
          go (yes e) = rw (choose_at j k v (get_or t (cell x j) d) e, e) (get_or-set_same t (cell x k) v d b)
          go (no n) =
              let o : cell x j ≢ cell x k = omega arith in
              rw (choose_off j k v (get_or t (cell x j) d) n) (get_or-set_other t (cell x k) (cell x j) v d o)

      off : (y j : ℕ) → j < node_limit → y ≢ x → get_or (set t (cell x k) v) (cell y j) d ≡ get_or t (cell y j) d
      off y j hj n = let o : cell y j ≢ cell x k = omega arith in get_or-set_other t (cell x k) (cell y j) v d o

  -- a row, read by other words
  pub row_as : {d : A} {t t' : List A} {x : ℕ} {f g : ℕ → A} → ((k : ℕ) → k < node_limit → f k ≡ g k) → Row d t t' x f → Row d t t' x g
  row_as h w = record { at = λ k b. w.at k b ∙ h k b; off = w.off; size = w.size }

  -- the whole row written
  pub row_fill : (d : A) (t : List A) (x : ℕ) (f : ℕ → A) → length t ≡ cells → x < node_limit → Row d t (fill f (x * node_limit) node_limit t) x f
  row_fill d t x f s hx = record {
    at = λ k hk. let b : x * node_limit + node_limit ≤ length t = omega arith in get_or_fill_at f (x * node_limit) node_limit t d k b hk;
    off = λ y k hk n. get_or_fill_off f (x * node_limit) node_limit t d (cell y k) (λ i hi. omega arith);
    size = length_fill f (x * node_limit) node_limit t;
  }

  -- one cell written, and then the whole row
  pub row_over : (d : A) (t : List A) (x j : ℕ) (v : A) (f : ℕ → A) → length t ≡ cells → x < node_limit → j < node_limit
      → Row d t (fill f (x * node_limit) node_limit (set t (cell x j) v)) x f
  row_over d t x j v f s hx hj =
      let one = row_put d t x j v s hx hj in
      let over = row_fill d (set t (cell x j) v) x f (length-set t (cell x j) v ∙ s) hx in
      record { at = over.at; off = λ y k hk n. over.off y k hk n ∙ one.off y k hk n; size = over.size ∙ one.size }
