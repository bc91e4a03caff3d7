pub mod Sides
pub mod Room
pub mod Groups
