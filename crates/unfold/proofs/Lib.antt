pub mod Level
pub mod Pair
pub mod Line
