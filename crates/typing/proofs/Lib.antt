pub mod Tests
pub mod Judging
pub mod Answering
mod Exactness
mod Nesting
mod Specimens
