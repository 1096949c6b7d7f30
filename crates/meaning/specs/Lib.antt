pub mod Evaluation
pub mod Laws
pub mod Meaning
pub mod Values
