pub mod Numbers
pub mod Scaling
pub mod Promises
pub mod Coincide
pub mod Two
