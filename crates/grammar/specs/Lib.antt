pub mod Tree
pub mod Grammar
pub mod Promise
pub mod Parts
pub mod Readers
pub mod Reading
