pub mod Coding
pub mod Chosen
