pub mod Buffers
pub mod Printing
pub mod RoundTrip
pub mod Examples
