pub mod Limits
pub mod Places
pub mod Rules
pub mod Shown
