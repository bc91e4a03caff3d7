pub mod Scaling
pub mod Squaring
