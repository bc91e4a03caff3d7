pub mod Parts
pub mod Passed
pub mod Alone
pub mod Called
pub mod Finished
