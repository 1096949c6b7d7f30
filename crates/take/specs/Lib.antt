pub mod Taking
pub mod Supplies
