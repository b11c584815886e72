pub mod Name
pub mod Path
pub mod PathCount
pub mod PathList
pub mod PathOrder
pub mod PathParts
pub mod Quiver
