pub mod ClaimVerdicts
pub mod Kinds
pub mod NamedParts
pub mod Room
pub mod Runs
