pub mod Signs
pub mod Wrong
pub mod Front
pub mod Laying
pub mod Over
