pub mod Bounds
pub mod Gains
pub mod Pair
pub mod Room
pub mod Level
pub mod HalfLine
