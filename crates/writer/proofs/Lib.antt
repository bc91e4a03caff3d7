pub mod Counted
pub mod Signs
pub mod Writing
