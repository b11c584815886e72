pub mod SumSteps
pub mod AddedWords
pub mod ModuleSteps
pub mod TargetSteps
pub mod WordRows
pub mod TermRowCells
