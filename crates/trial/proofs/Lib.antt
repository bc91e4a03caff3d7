pub mod Levels
pub mod Fitting
