pub mod Building
pub mod Columns
pub mod Kinds
pub mod Sameness
pub mod Spelled
