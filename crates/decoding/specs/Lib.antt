pub mod Scaling
pub mod Inverse
pub mod Call
