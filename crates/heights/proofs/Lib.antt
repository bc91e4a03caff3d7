pub mod Exact
pub mod Surplus
pub mod Shown
pub mod Tall
pub mod Coincide
pub mod Numbers
