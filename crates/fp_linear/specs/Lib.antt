pub mod Elimination
pub mod Equality
pub mod Matrix
pub mod Meeting
pub mod Products
pub mod Sizes
pub mod Slices
pub mod Tables
