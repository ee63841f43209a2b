-- What the code of an event meets, and of the step.
pub mod Moving
pub mod Scene
pub mod Lent
