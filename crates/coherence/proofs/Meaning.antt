-- What the invariant means: from its clauses to demand 3, along the tree.
pub mod Named
pub mod SoleTip
pub mod Demands
