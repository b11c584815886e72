use Rattle.std.proofs.Common.{◌≡◌}
use Rattle.quiver_paths.specs.PathList.{path_count, saturated}
use Rattle.quiver_paths.specs.PathCount.{CountsPaths}
use Rattle.quiver_paths.proofs.counting.count_below.Given as goal

abbrev pub invariant-loop-length : goal.invariant-loop-length
invariant-loop-length l = (l.count ≡ saturated (path_count l.quiver l._length)) × CountsPaths l.quiver l._length l.counts
