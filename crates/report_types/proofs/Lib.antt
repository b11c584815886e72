pub mod Fronts
pub mod Places
pub mod Suffices
pub mod VerdictLaws
