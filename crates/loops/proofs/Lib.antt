-- A row that is written whole.
pub mod Filled
