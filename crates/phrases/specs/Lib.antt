pub mod Places
pub mod States
pub mod Leaves
pub mod Held
pub mod Sorts
pub mod Elements
