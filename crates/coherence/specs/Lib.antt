-- What is claimed: the configurations that are reached from reset, and what holds in each of them.
pub mod Reached
pub mod Coherent
