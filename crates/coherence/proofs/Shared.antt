-- What several kinds share.
pub mod Fallen
pub mod Rows
pub mod Settled
pub mod Stays
pub mod DataTaken
