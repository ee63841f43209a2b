-- What the code of the leaves meets.
pub mod Flags
pub mod Looks
