-- Names of nodes, and what is readable.
use Rattle.std.specs.Prelude.{Bool, false, not, ◌&&◌, ◌||◌, List, ℕ, get_or, eqb}
use Rattle.words.specs.Vocab.{all, any, choose}
use Rattle.rules.specs.Codes.{node_limit, rights_b, tip, none, branch, trunk, name_n, name_b, name_t, name_tb, name_tt}
use Rattle.rules.specs.Cells.{cell}
use Rattle.rules.specs.declared.State.{State}

-- some entry of the row of x is e
unfoldable pub some_in : List ℕ → ℕ → ℕ → Bool
some_in es x e = any (λ k. eqb (get_or es (cell x k) 0) e) node_limit

-- all entries of the row of x are None
unfoldable pub none_in : List ℕ → ℕ → Bool
none_in es x = all (λ k. eqb (get_or es (cell x k) 0) none) node_limit

-- all entries of the row of x but that of q are None
unfoldable pub others_none_in : List ℕ → ℕ → ℕ → Bool
others_none_in es x q = all (λ k. eqb k q || eqb (get_or es (cell x k) 0) none) node_limit

-- some member stands in the row of x
unfoldable pub member_in : List Bool → ℕ → Bool
member_in set x = any (λ k. get_or set (cell x k) false) node_limit

abbrev pub some_entry : State → ℕ → ℕ → Bool
some_entry s x e = some_in s.entries x e

abbrev pub no_entries : State → ℕ → Bool
no_entries s x = none_in s.entries x

abbrev pub no_other_entries : State → ℕ → ℕ → Bool
no_other_entries s x q = others_none_in s.entries x q

-- "both sets empty"
abbrev pub sets_empty_in : List Bool → List Bool → ℕ → Bool
sets_empty_in listed waits x = not (member_in listed x) && not (member_in waits x)

abbrev pub sets_empty : State → ℕ → Bool
sets_empty s x = sets_empty_in s.to_probe s.pending x

-- "Name of a node: its rights, except that Tip is called T with any Trunk entry, else TB with any Branch entry, else TT."
unfoldable pub name_of : ℕ → Bool → Bool → ℕ
name_of r trunks branches =
    choose (eqb r tip) (choose trunks name_t (choose branches name_tb name_tt)) (choose (eqb r rights_b) name_b name_n)

-- the name of x by the rights and the entries of all nodes
abbrev pub name_by : List ℕ → List ℕ → ℕ → ℕ
name_by rs es x = name_of (get_or rs x 0) (some_in es x trunk) (some_in es x branch)

abbrev pub named : State → ℕ → ℕ
named s x = name_by s.rights s.entries x

-- "Readable means named B, TT or TB."
abbrev pub readable_name : ℕ → Bool
readable_name n = eqb n name_b || eqb n name_tt || eqb n name_tb

abbrev pub readable : State → ℕ → Bool
readable s x = readable_name (named s x)
