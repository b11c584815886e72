-- Lists of matrices of which the lines name those with entries.
pub use Rattle.claim_blocks.specs.Matrices.{empty_matrix, empties, filled}
