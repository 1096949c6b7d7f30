pub mod Exactness
pub mod Values
pub mod Listings
pub mod Whole
pub mod Written
pub mod Blame
pub mod Due
pub mod Feeds
pub mod Layers
pub mod Turns
mod Examples
