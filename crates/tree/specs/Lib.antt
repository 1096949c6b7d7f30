pub mod Kinds
pub mod Holds
pub mod Kept
