-- Laws of the first record: what its test says, and what reset by it gives.
pub mod Opened
