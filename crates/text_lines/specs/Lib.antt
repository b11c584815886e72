pub mod Parts
pub mod Lines
pub mod Strict
pub mod Script
pub mod Numerals
pub mod Reading
pub mod Forms
pub mod Refusals
