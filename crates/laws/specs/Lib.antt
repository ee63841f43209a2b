-- Statements of laws that a promise's reader may want to see.
pub mod Once
