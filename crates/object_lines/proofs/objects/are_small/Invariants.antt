use Rattle.std.proofs.Common.{◌≡◌, ◌+◌, slice_index}
use Rattle.linear_algebra.specs.BlockFamilies.{total}
use Rattle.object_lines.proofs.objects.are_small.Given as goal

abbrev pub invariant-loop-dim : goal.invariant-loop-dim
invariant-loop-dim l = total l.dim-index (slice_index l.dims) + l.left ≡ 256
