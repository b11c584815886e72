pub mod Deciding
pub mod DecidedPaths
