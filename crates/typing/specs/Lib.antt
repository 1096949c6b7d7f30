pub mod Environments
pub mod Tables
pub mod Typing
pub mod Failing
pub mod Checker
pub mod Nesting
pub mod Promise
pub mod Specimens
