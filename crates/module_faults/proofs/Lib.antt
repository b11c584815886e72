pub mod Arrows
pub mod BothSides
pub mod DualLists
mod DualSides
pub mod FirstPaths
pub mod FirstRelations
pub mod LevelRows
pub mod PathEnds
pub mod PlacedColumns
pub mod PrefixRows
pub mod RelationActs
pub mod RelationValues
pub mod Searching
pub mod ShortRelations
pub mod Sized
pub mod SmallModules
pub mod StoppedRows
pub mod Stopping
