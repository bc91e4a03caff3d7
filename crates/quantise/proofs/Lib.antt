pub mod Answer
pub mod Accepting
pub mod Found
pub mod Refusing
