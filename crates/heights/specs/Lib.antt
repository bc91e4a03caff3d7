pub mod Extremes
pub mod Shown
pub mod Call
