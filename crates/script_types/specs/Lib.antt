pub mod Ranges
pub mod Lawful
