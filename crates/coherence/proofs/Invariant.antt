-- The invariant: its clauses, what they say at a node and at a link, and the frame of a step.
pub mod Clauses
pub mod Valid
pub mod Tokens
pub mod Frame
pub mod Here
