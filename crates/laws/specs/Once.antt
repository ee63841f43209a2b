-- "Any two answers that satisfy a promise are proved identical", of the promises that say an answer's number or place alone.
use Rattle.std.specs.Prelude.{◌≡◌, ◌≤◌, ℕ, Result, Option, MatchOption, ⊤}
use Rattle.rules.specs.Codes.{node_limit}
use Rattle.rules.specs.Refusals.{number_said}
use Rattle.rules.specs.declared.Refusal.{Refusal}
use Rattle.rules.specs.declared.Index.{Index}

-- `judged` says the number
abbrev pub OneJudged : Type 0
OneJudged = (r q : Result ⊤ Refusal) → number_said r ≡ number_said q → r ≡ q

-- `node_of` and `end_of` say the place, and `Index::new` whether there is one, and which
abbrev pub OneIndex : Type 0
OneIndex = (x y : Index) → x.at ≡ y.at → x ≡ y

abbrev pub OnePlace : Type 0
OnePlace = (k : ℕ) (r q : Option Index) → MatchOption r (node_limit ≤ k) (λ x. x.at ≡ k) → MatchOption q (node_limit ≤ k) (λ x. x.at ≡ k) → r ≡ q
