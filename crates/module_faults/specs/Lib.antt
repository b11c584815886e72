pub mod Levels
pub mod MapFaults
pub mod ModuleFaults
pub mod PathActions
pub mod RelationActions
pub mod ShortRelations
