pub mod Samples
pub mod Signing
pub mod Keeping
