use Rattle.std.proofs.Common.{◌≡◌, ◌-◌, length}
use Rattle.quiver_paths.specs.PathList.{paths_below}
use Rattle.quiver_paths.proofs.listing.list_below.Given as goal

abbrev pub invariant-loop-length : goal.invariant-loop-length
invariant-loop-length l =
    (l.paths.items ≡ paths_below l.quiver l._length) × (l.begin ≡ length (paths_below l.quiver (l._length - 1)))
