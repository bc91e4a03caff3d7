pub mod Matrix
pub mod Scales
pub mod Inner
