pub mod Coefficients
pub mod Call
