pub mod OneToOne
pub mod Order
pub mod Laid
pub mod Scanned
