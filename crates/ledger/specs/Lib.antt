pub mod Lines
pub mod WrittenSound
