pub mod Asked
mod Examples
mod Fields
mod Lists
mod Samples
mod Spaces
