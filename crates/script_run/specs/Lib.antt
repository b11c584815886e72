pub mod Ends
pub mod Runs
pub mod Records
pub mod Reached
