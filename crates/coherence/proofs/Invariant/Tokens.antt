-- Laws on the three tokens, and rules on the codes of a link that antt computes over all of them.
use mathlib.Core.Path.{◌≡◌, refl, sym, ap}
use mathlib.Core.Bool.{Bool, true, false, not, ◌&&◌, false≢true}
use mathlib.Core.Logic.{◌≢◌}
use Prim.Native.Nat.{ℕ, ◌<◌, ◌≤◌}
use borrow.Author.Tests.{eqb-true, leb-true, not-true, eq-eqb}
use lib.Dec.{eqb, leb}
use Rattle.words.specs.Vocab.{all, choose}
use Rattle.words.proofs.Facts.{both, all_at, implies, differ}
use Rattle.rules.specs.Codes.{levels, ups, keeps, downs, rights_n, none, trunk, empty, release_ack}
use Rattle.rules.specs.Messages.{installs, from_trunk, is_probe_ack, is_release, is_grant, carries_down}
use Rattle.coherence.proofs.Invariant.Clauses.{◌⇒◌, token, agrees}

-- where a token is
pub data At : Bool → Bool → Bool → Bool → Type 0 where
  nowhere : At false false false false
  first : At true true false false
  second : At true false true false
  third : At true false false true

pub token_at : (a b c d : Bool) → token a b c d ≡ true → At a b c d
token_at true true true true h = absurd (false≢true h)
token_at true true true false h = absurd (false≢true h)
token_at true true false true h = absurd (false≢true h)
token_at true true false false h = first
token_at true false true true h = absurd (false≢true h)
token_at true false true false h = second
token_at true false false true h = third
token_at true false false false h = absurd (false≢true h)
token_at false true true true h = absurd (false≢true h)
token_at false true true false h = absurd (false≢true h)
token_at false true false true h = absurd (false≢true h)
token_at false true false false h = absurd (false≢true h)
token_at false false true true h = absurd (false≢true h)
token_at false false true false h = absurd (false≢true h)
token_at false false false true h = absurd (false≢true h)
token_at false false false false h = nowhere

-- a token that is out, or at one of its places: what that says of the others
pub token_in : {a b c d : Bool} → At a b c d → a ≡ false → (b ≡ false) × (c ≡ false) × (d ≡ false)
token_in nowhere e = (refl, refl, refl)
token_in first e = absurd (false≢true (sym e))
token_in second e = absurd (false≢true (sym e))
token_in third e = absurd (false≢true (sym e))

pub token_first : {a b c d : Bool} → At a b c d → b ≡ true → (a ≡ true) × (c ≡ false) × (d ≡ false)
token_first first e = (refl, refl, refl)
token_first nowhere e = absurd (false≢true e)
token_first second e = absurd (false≢true e)
token_first third e = absurd (false≢true e)

pub token_second : {a b c d : Bool} → At a b c d → c ≡ true → (a ≡ true) × (b ≡ false) × (d ≡ false)
token_second second e = (refl, refl, refl)
token_second nowhere e = absurd (false≢true e)
token_second first e = absurd (false≢true e)
token_second third e = absurd (false≢true e)

pub token_third : {a b c d : Bool} → At a b c d → d ≡ true → (a ≡ true) × (b ≡ false) × (c ≡ false)
token_third third e = (refl, refl, refl)
token_third nowhere e = absurd (false≢true e)
token_third first e = absurd (false≢true e)
token_third second e = absurd (false≢true e)

-- a test over all codes of the rights, the entry, C with its kept rights, and D
abbrev pub every_code : (ℕ → ℕ → ℕ → ℕ → ℕ → Bool) → Bool
every_code f = all (λ r. all (λ e. all (λ c. all (λ k. all (f r e c k) downs) keeps) ups) levels) levels

-- codes within their lists
pub record Codes (r e c k d : ℕ) : Type 0 where
  pub rights : r < levels
  pub entry : e < levels
  pub up : c < ups
  pub kept : k < keeps
  pub down : d < downs

pub code_at : (f : ℕ → ℕ → ℕ → ℕ → ℕ → Bool) → every_code f ≡ true → {r e c k d : ℕ} → Codes r e c k d → f r e c k d ≡ true
code_at f h {r} {e} {c} {k} w =
    all_at (f r e c k) downs _
    (all_at (λ k. all (f r e c k) downs) keeps _
    (all_at (λ c. all (λ k. all (f r e c k) downs) keeps) ups _
    (all_at (λ e. all (λ c. all (λ k. all (f r e c k) downs) keeps) ups) levels _
    (all_at (λ r. all (λ e. all (λ c. all (λ k. all (f r e c k) downs) keeps) ups) levels) levels _ h w.rights) w.entry) w.up) w.kept) w.down

-- a rule with several hypotheses, put to use
pub implies2 : (a b c : Bool) → (a ⇒ b ⇒ c) ≡ true → a ≡ true → b ≡ true → c ≡ true
implies2 a b c h e f = implies b c (implies a (b ⇒ c) h e) f

pub implies3 : (a b c d : Bool) → (a ⇒ b ⇒ c ⇒ d) ≡ true → a ≡ true → b ≡ true → c ≡ true → d ≡ true
implies3 a b c d h e f g = implies2 b c d (implies a (b ⇒ c ⇒ d) h e) f g

-- the laws of a message in C
module _ {c : ℕ} (l : c < ups) where
  -- what the parent installs comes from a Trunk entry
  pub installs_trunk : installs c ≡ true → from_trunk c ≡ true
  unfolding all choose installs from_trunk
  installs_trunk = implies _ _ (all_at (λ c. installs c ⇒ from_trunk c) ups c refl l)

  -- a ProbeAck is no Release, and a message is one of them
  pub ack_release : is_probe_ack c ≡ true → is_release c ≡ false
  unfolding all choose is_probe_ack is_release
  ack_release h = not-true _ (implies _ _ (all_at (λ c. is_probe_ack c ⇒ not (is_release c)) ups c refl l) h)

  pub release_ack_lem : is_release c ≡ true → is_probe_ack c ≡ false
  unfolding all choose is_probe_ack is_release
  release_ack_lem h = not-true _ (implies _ _ (all_at (λ c. is_release c ⇒ not (is_probe_ack c)) ups c refl l) h)

  pub no_message : is_probe_ack c ≡ false → is_release c ≡ false → c ≡ empty
  unfolding all choose is_probe_ack is_release
  no_message h g = eqb-true _ _ (implies2 _ _ _ (all_at (λ c. not (is_probe_ack c) ⇒ not (is_release c) ⇒ eqb c empty) ups c refl l) (ap not h) (ap not g))

-- the laws of a message in D
module _ {d : ℕ} (l : d < downs) where
  -- data comes down in a Grant alone
  pub no_grant_data : is_grant d ≡ false → carries_down d ≡ false
  unfolding all choose is_grant carries_down
  no_grant_data h = not-true _ (implies _ _ (all_at (λ d. not (is_grant d) ⇒ not (carries_down d)) downs d refl l) (ap not h))

  pub grant_no_ack : is_grant d ≡ true → eqb d release_ack ≡ false
  unfolding all choose is_grant
  grant_no_ack h = not-true _ (implies _ _ (all_at (λ d. is_grant d ⇒ not (eqb d release_ack)) downs d refl l) h)

-- what the codes of a link say
module _ {r e c k d : ℕ} (w : Codes r e c k d) where
  -- BELOW: the rights are not above the entry
  pub below : agrees r e c k d ≡ true → r ≤ e
  unfolding all agrees
  below h = leb-true r e (implies _ _ (code_at (λ r e c k d. agrees r e c k d ⇒ leb r e) refl w) h)

  -- the entry None: the child has nothing, and no data is on its way to it
  pub nothing : agrees r e c k d ≡ true → e ≡ none → (r ≡ rights_n) × (carries_down d ≡ false)
  unfolding all agrees carries_down
  nothing h f =
      let u = both (eqb r rights_n) (not (carries_down d)) (implies2 _ _ _ (code_at (λ r e c k d. agrees r e c k d ⇒ eqb e none ⇒ (eqb r rights_n && not (carries_down d))) refl w) h (eq-eqb _ _ f)) in
      (eqb-true _ _ u.0, not-true _ u.1)

  -- the entry is not Trunk: no data is on its way up
  pub dataless : agrees r e c k d ≡ true → e ≢ trunk → installs c ≡ false
  unfolding all agrees installs
  dataless h n = not-true _ (implies2 _ _ _ (code_at (λ r e c k d. agrees r e c k d ⇒ not (eqb e trunk) ⇒ not (installs c)) refl w) h (differ _ _ n))
