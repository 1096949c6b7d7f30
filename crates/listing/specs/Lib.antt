pub mod Seen
pub mod Whole
