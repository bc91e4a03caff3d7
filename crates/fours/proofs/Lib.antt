pub mod Settled
pub mod Four
pub mod Lines
pub mod LastRows
