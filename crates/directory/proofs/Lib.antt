pub mod Decoding
pub mod Searching
pub mod Keeping
pub mod Growing
pub mod Settling
pub mod Questions
pub mod Adding
pub mod Restarting
