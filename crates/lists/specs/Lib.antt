pub mod Links
pub mod Elements
pub mod Walks
pub mod Fits
pub mod Naming
