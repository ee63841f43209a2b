-- How many bytes a configuration and an answer have.
pub mod Sizes
pub mod AnswerWhole
