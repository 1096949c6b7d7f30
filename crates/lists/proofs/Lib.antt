pub mod Walking
pub mod Fitting
pub mod Renaming
