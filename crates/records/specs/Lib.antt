-- docs/FORMAT.md as definitions.
pub mod Layout
pub mod StateBytes
pub mod AnswerBytes
