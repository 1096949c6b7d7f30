pub mod Chains
pub mod Names
pub mod Nesting
