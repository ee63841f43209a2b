-- Bytes: numbers, flags, events, the length before a record, the trail's versions, and bytes written into a buffer.
pub mod BigEndian
pub mod Fields
pub mod Prefixed
pub mod Versions
pub mod Written
