pub mod AlgebraWords
pub mod BoundAlgebra
pub mod ModulesByTerms
pub mod NormalWords
pub mod PathMatrices
pub mod TypedPaths
pub mod WordLists
