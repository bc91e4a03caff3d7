pub mod Numbers
pub mod Whole
pub mod Verdict
pub mod Bounds
pub mod Coincide
