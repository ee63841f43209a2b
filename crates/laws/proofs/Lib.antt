pub mod Numbers
pub mod Refusals
pub mod Onward
pub mod Values
pub mod ResetTree
pub mod Results
pub mod NoKind
