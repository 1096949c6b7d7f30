pub mod Cases
pub mod Rows
pub mod Soundness
pub mod Cells
pub mod Kept
pub mod Reasons
pub mod Laws
pub mod Exits
