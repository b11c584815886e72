pub mod Closure
pub mod SparseRows
pub mod WordProducts
pub mod Vanishing
