pub mod Sum
pub mod Floor
pub mod Tests
pub mod Clip
