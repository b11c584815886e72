use Rattle.std.proofs.Common.{◌≡◌, ◌++◌}
use Rattle.quiver_paths.specs.Quiver.{target}
use Rattle.quiver_paths.specs.PathList.{behind_arrow}
use Rattle.quiver_paths.proofs.ListingSteps.{between}
use Rattle.quiver_paths.proofs.listing.push_behind.Given as goal

abbrev pub invariant-loop-i : goal.invariant-loop-i
invariant-loop-i l =
    (l.target ≡ target l.quiver l.arrow)
    × (l.paths.items ≡ l.fn.paths.items ++ behind_arrow l.quiver (between l.fn.paths.items l.begin l.i) l.arrow)
