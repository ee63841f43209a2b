-- What holds at every row of the table of versions.
use Prim.Native.Nat.{ℕ, zero, suc, ◌+◌, ◌≤◌}
use native.Mathlib.Omega.{arith}
use Rattle.rules.specs.Codes.{node_limit}
use Rattle.octets.specs.Versions.{longest_first}

-- a first record has 8 bytes for the value and one for each node but the root, and no version has more nodes than the limit
pub longest_fits : (v : ℕ) → longest_first v ≤ node_limit + 7
unfolding longest_first
longest_fits zero = omega arith
longest_fits (suc zero) = omega arith
longest_fits (suc (suc v)) = omega arith
