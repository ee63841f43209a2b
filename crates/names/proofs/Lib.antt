-- What the code of a name meets.
pub mod Naming
