pub mod Spelling
pub mod Named
pub mod Reading
pub mod Part
