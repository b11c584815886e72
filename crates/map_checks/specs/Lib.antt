pub mod ArrowRows
pub mod BlockParts
pub mod PartLists
