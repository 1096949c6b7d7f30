pub mod Positions
pub mod Learns
