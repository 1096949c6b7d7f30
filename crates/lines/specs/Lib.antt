pub mod Buffers
pub mod Shown
