pub mod UnitRanks
pub mod ClassRows
pub mod Combinations
pub mod PrintedListed
