pub mod Columns
pub mod Lines
pub mod Product
pub mod Sizes
