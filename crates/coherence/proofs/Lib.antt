pub mod Invariant
pub mod Shared
pub mod Meaning
pub mod Steps
pub mod Theorem
