pub mod Packing
pub mod Runs
pub mod Call
pub mod Inner
