pub mod Laws
pub mod Plan
pub mod Planning
