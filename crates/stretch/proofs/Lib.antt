pub mod OneComponent
