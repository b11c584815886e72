pub mod CheckedOnce
pub mod WordLemmas
pub mod OutcomeLemmas
pub mod RunLemmas
pub mod ExpectedLemmas
pub mod WholeRuns
