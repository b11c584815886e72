pub mod HomBases
pub mod HomCounts
pub mod RowsInBases
