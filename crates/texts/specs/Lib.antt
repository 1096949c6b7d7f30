pub mod Formats
pub mod Language
pub mod Readers
pub mod Reading
pub mod Promise
pub mod Layers
pub mod Lines
pub mod Roundtrip
