pub mod Runs
pub mod Specimens
pub mod State
pub mod Steps
