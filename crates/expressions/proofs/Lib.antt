pub mod Readings
pub mod Factors
pub mod Nodes
pub mod Calls
