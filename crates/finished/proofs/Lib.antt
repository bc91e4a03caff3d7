pub mod Holding
pub mod Places
pub mod Whole
