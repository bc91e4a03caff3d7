pub mod Lines
pub mod Odd
pub mod Loop
pub mod Unfolding
pub mod Halves
