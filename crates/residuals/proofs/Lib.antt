pub mod Whole
pub mod Two
pub mod Front
pub mod Rooms
