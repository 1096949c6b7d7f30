pub mod Steps
mod Meeting
