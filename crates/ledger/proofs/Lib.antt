pub mod Passes
pub mod Numbering
pub mod Counting
pub mod Fields
pub mod Changes
