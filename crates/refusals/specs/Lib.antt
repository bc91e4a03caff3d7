pub mod Sides
pub mod Numbers
pub mod Faults
pub mod Three
pub mod Ranges
