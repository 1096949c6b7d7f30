pub mod Passes
pub mod Repeats
