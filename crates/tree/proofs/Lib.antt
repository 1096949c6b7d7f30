pub mod Stable
pub mod Grown
