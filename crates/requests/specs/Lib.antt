pub mod Inner
pub mod Request
pub mod Words
