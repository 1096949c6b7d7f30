pub mod Run
pub mod Starts
pub mod Tables
