pub mod Cutting
pub mod EntryRows
pub mod Lawful
pub mod Numbered
pub mod OneLoops
pub mod Rows
pub mod Stored
