pub mod Starts
pub mod Shapes
