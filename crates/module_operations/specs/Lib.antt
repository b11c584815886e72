pub mod ArrowSpans
pub mod Computed
pub mod Determined
pub mod Images
pub mod Summands
pub mod VertexSpaces
