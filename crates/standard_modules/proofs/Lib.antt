pub mod Lists
pub mod Counted
pub mod ArrowRows
pub mod Modules
pub mod SimpleLists
pub mod SumDimensions
