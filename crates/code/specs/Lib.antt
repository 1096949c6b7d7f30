pub mod Generation
pub mod Instructions
pub mod Laws
