-- Laws of the lines: digits, how lines are put together, and how long they are.
pub mod Decimal
pub mod Composing
