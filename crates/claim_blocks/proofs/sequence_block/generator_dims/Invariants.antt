use Rattle.std.proofs.Common.{ℕ, ◌≡◌, ◌<◌, length}
use Rattle.std.specs.Prelude.{slice_index}
use Rattle.report_types.specs.ClaimBlocks.{vertices_of}
use Rattle.report_types.specs.Numbers.{module_of}
use Rattle.report_types.specs.WordDimensions.{dim_of}
use Rattle.claim_blocks.proofs.sequence_block.generator_dims.Given as goal

abbrev pub invariant-loop-j : goal.invariant-loop-j
invariant-loop-j l =
    (length l.counts ≡ l.j)
    × ((k : ℕ) → k < l.j → slice_index l.counts k ≡ dim_of l.context.header (module_of l.context.records l.n) (slice_index (vertices_of l.context.header l.context.records l.resolution 0) k))
