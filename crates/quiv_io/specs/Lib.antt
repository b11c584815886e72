pub mod Counts
pub mod Bytes
pub mod Whole
pub mod Views
