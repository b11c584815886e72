mod CountingSteps
mod ListingSteps
pub mod ListLemmas
pub mod NamesLemmas
pub mod PathCountLemmas
pub mod PathLemmas
pub mod PathListLemmas
pub mod PathOrderLemmas
pub mod QuiverLemmas
