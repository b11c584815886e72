use Rattle.std.proofs.Common.{◌≡◌, sum, take}
use Rattle.quiver_paths.specs.PathList.{saturated}
use Rattle.quiver_paths.proofs.counting.total.Given as goal

abbrev pub invariant-loop-count : goal.invariant-loop-count
invariant-loop-count l = l.sum ≡ saturated (sum (take l.count-index l.counts))
