use Rattle.std.proofs.Common.{◌≡◌, slice_index}
use Rattle.linear_algebra.specs.BlockFamilies.{total}
use Rattle.mod_ops.proofs.modules.dimension_of.Given as goal

abbrev pub invariant-loop-v : goal.invariant-loop-v
invariant-loop-v l = l.sum ≡ total l.v (slice_index l.dims)
