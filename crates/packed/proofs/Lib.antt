pub mod Chunks
pub mod Narrow
pub mod Beginnings
pub mod Fields
pub mod Turning
