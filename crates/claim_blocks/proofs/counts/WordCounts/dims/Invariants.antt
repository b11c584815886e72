use Rattle.std.proofs.Common.{ℕ, ◌≡◌, ◌+◌, ◌<◌, length}
use Rattle.std.specs.Prelude.{slice_index}
use Rattle.linear_algebra.specs.BlockFamilies.{total}
use Rattle.claim_blocks.specs.Counts.{table_dim}
use Rattle.claim_blocks.proofs.counts.WordCounts.dims.Given as goal

abbrev pub invariant-loop-vertex : goal.invariant-loop-vertex
invariant-loop-vertex l =
    (l.left + total l.vertex (table_dim l.self l.vertices) ≡ 512) × (length l.dims ≡ l.vertex) × ((k : ℕ) → k < l.vertex → slice_index l.dims k ≡ table_dim l.self l.vertices k)
