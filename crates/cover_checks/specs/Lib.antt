pub mod Coordinates
pub mod Covers
pub mod Bases
pub mod Folds
pub mod Room
pub mod Choosing
