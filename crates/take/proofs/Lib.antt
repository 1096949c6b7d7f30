pub mod Turns
pub mod Fills
pub mod Settles
pub mod Widths
pub mod Takes
pub mod Learns
pub mod Replies
