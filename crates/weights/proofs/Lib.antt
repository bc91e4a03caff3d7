pub mod Levels
pub mod Offering
pub mod Places
pub mod Filling
pub mod Rooms
