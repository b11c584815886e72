pub mod Entries
pub mod Marks
pub mod OneLoop
pub mod RowCounts
