pub mod Across
pub mod Dots
pub mod Squares
pub mod Duals
pub mod Room
pub mod Steps
