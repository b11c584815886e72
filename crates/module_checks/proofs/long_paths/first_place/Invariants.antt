use Rattle.std.proofs.Common.{◌≡◌, ◌≤◌, ◌*◌}
use Rattle.std.specs.Prelude.{slice_index}
use Rattle.linear_algebra.specs.BlockFamilies.{total}
use Rattle.module_checks.proofs.long_paths.first_place.Given as goal

abbrev pub invariant-loop-v : goal.invariant-loop-v
invariant-loop-v l = record {
  count : l.count ≡ total l.v (slice_index l.dims);
  small : l.count ≤ l.v * 256;
}
