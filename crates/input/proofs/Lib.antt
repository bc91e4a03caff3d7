mod Handing
mod Moved
mod Parts
mod Search
pub mod Told
