pub mod WordChecks
pub mod FirstClauses
pub mod NormalForm
pub mod WordPlaces
pub mod TableView
pub mod LastUses
