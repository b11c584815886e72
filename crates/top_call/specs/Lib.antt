pub mod Modes
pub mod Texts
pub mod Answers
pub mod Outcomes
pub mod Expected
pub mod Steps
pub mod Wanted
