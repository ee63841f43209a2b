-- Demand 3, part by part.
use Rattle.std.specs.Prelude.{◌≡◌, Bool, true, ◌&&◌, ◌||◌, ℕ, ◌<◌, eqb}
use Rattle.rules.specs.Codes.{rights_n, rights_b, tip, none, branch, trunk, name_tt}
use Rattle.rules.specs.Cells.{parent, rights, entry, node, link, value}
use Rattle.rules.specs.Names.{named, readable}
use Rattle.rules.specs.Configuration.{slots_empty}
use Rattle.rules.specs.Scenes.{all_idle}
use Rattle.rules.specs.declared.State.{State}

-- an entry says the rights: None and N, Branch and B, Trunk and Tip
abbrev pub says_rights : ℕ → ℕ → Bool
says_rights e r = (eqb e none && eqb r rights_n) || (eqb e branch && eqb r rights_b) || (eqb e trunk && eqb r tip)

pub record Coherent (s : State) (v : ℕ) : Type 0 where
  -- "a node in TT is the only readable node of the tree"
  pub only : (x y : ℕ) → x < s.count → y < s.count → named s x ≡ name_tt → readable s y ≡ true → y ≡ x
  -- "every readable node holds the value of the last accepted store, or the first value"
  pub fresh : (x : ℕ) → x < s.count → readable s x ≡ true → value s x ≡ v
  -- "on every link with five empty slots and all transactions idle at both ends, the parent's entry says the rights that the child holds"
  pub quiet : (k : ℕ) → 0 < k → k < s.count → slots_empty (link s k) ≡ true → all_idle (node s (parent s k)) ≡ true → all_idle (node s k) ≡ true
      → says_rights (entry s (parent s k) k) (rights s k) ≡ true
