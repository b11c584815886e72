pub mod KernelTests
pub mod ArrowRows
pub mod RadicalTests
pub mod BlockParts
pub mod PartTests
pub mod DecompositionTests
