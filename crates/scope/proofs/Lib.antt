mod Ends
mod Cuts
pub mod Searches
pub mod Numbers
