pub mod Steps
pub mod Exits
pub mod Entries
pub mod Tables
