pub mod BasisRecords
pub mod RightReports
pub mod Pieces
