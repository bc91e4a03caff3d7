pub mod Kept
pub mod OneComponent
