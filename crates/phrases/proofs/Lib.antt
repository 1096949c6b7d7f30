pub mod Scans
pub mod Steps
pub mod LeafNodes
pub mod Puts
pub mod ListSteps
pub mod ListCalls
