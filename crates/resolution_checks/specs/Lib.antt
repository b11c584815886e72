pub mod Room
pub mod Products
pub mod Steps
pub mod MatrixConditions
