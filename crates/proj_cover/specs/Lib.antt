pub mod CanonicalTerms
pub mod CoverLimits
