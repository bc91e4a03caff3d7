pub mod Counts
pub mod NeverOther
