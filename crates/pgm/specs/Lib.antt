pub mod Gap
pub mod Number
pub mod Header
pub mod Samples
