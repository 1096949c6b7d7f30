pub mod Strings
pub mod Rooms
pub mod Learning
