use Rattle.std.proofs.Common.{◌≡◌, ◌≤◌, ◌*◌, slice_index}
use Rattle.linear_algebra.specs.BlockFamilies.{total}
use Rattle.written_modules.proofs.reps.dimension_of.Given as goal

abbrev pub invariant-loop-v : goal.invariant-loop-v
invariant-loop-v l = (l.sum ≡ total l.v (slice_index l.dims)) × (l.sum ≤ l.v * 4294967295)
