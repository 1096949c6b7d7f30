mod Digits
pub mod Puts
pub mod Loops
