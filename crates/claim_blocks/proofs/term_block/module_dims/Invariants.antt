use Rattle.std.proofs.Common.{ℕ, ◌≡◌, ◌<◌, length}
use Rattle.std.specs.Prelude.{slice_index}
use Rattle.report_types.specs.Numbers.{module_of}
use Rattle.report_types.specs.WordDimensions.{dim_of}
use Rattle.claim_blocks.proofs.term_block.module_dims.Given as goal

abbrev pub invariant-loop-vertex : goal.invariant-loop-vertex
invariant-loop-vertex l = (length l.dims ≡ l.vertex) × ((k : ℕ) → k < l.vertex → slice_index l.dims k ≡ dim_of l.context.header (module_of l.context.records l.n) k)
