pub mod First
pub mod Prefix
pub mod Coincide
