use Rattle.std.proofs.Common.{◌≡◌, ◌≤◌, ◌*◌, slice_index}
use Rattle.linear_algebra.specs.BlockFamilies.{total}
use Rattle.module_types.proofs.Module.dimension.Given as goal

abbrev pub invariant-loop-i : goal.invariant-loop-i
invariant-loop-i l = (l.sum ≡ total l.i (slice_index l.self.dims)) × (l.sum ≤ l.i * 4294967295)
