pub mod Side2
pub mod Numbers
