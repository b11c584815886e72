pub mod SumDims
pub mod RowSteps
pub mod TermCells
