pub mod Reading
pub mod Hex
pub mod Doubles
pub mod Signs
pub mod Examples
