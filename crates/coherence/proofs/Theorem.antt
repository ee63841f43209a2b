-- The theorem: the invariant holds from reset on, and so demand 3.
pub mod Reset
pub mod Theorem
