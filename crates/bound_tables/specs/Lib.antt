pub mod PlacedEntries
pub mod TableSides
