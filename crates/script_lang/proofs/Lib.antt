mod NameLaws
mod ReferenceLaws
mod ListReading
mod RelatedLaws
pub mod Steps
mod PlaceLaws
mod Decided
pub mod ScriptLaws
mod TokenRanges
mod LineRanges
mod SoundStatements
mod SoundParts
mod StatementSizes
mod LineSizes
pub mod LawfulScripts
