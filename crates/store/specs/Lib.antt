pub mod Meaning
pub mod Sound
pub mod Calls
pub mod Laws
pub mod Shown
