pub mod Columns
pub mod Pivots
pub mod Terms
pub mod Choice
