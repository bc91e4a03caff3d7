pub mod Holding
pub mod Choosing
pub mod Looking
pub mod Ending
pub mod Reading
