pub mod PutBack
pub mod Trying
