mod Spaced
mod Lines
mod Examples
