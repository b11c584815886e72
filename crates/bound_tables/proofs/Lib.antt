pub mod PlacedWords
pub mod TableRows
