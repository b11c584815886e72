pub mod Room
pub mod Asking
pub mod Following
pub mod Cleared
pub mod RowConditions
