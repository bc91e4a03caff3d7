pub mod Near
pub mod There
pub mod Matrices
pub mod Coefficient
pub mod Plain
pub mod Block
pub mod Call
pub mod Numbers
