pub mod Gaps
pub mod Occurrences
pub mod ShortPaths
pub mod Derived
pub mod Reducing
pub mod FirstGaps
pub mod Scaling
pub mod NewRules
