pub mod Differences
pub mod Zeros
pub mod Front
