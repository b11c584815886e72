-- Matrices that are read one by one, those without entries by themselves.
pub use Rattle.claim_blocks.proofs.MatrixBlocks.{empty_shape, only_empty, push_matrix, push_filled, filled_empty, filled_entry, filled_whole, at_lines-empty, at_lines-entry, at_lines-append, at_lines-filled, at_lines-push}
