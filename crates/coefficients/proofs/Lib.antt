pub mod Magnitudes
pub mod Lowest
pub mod Reaching
pub mod Parts
pub mod Uncoding
pub mod Blank
pub mod Small
