pub mod Spreading
pub mod Coefficients
pub mod ReadBack
