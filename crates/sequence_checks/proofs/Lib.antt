pub mod PulledRows
pub mod PartRows
pub mod MapSteps
pub mod MiddleSteps
pub mod AroundSteps
pub mod EndTests
pub mod SequenceTests
