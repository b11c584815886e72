use Rattle.std.proofs.Common.{◌≡◌, ◌++◌, drop, vec_len}
use Rattle.std.specs.List.{flat_map, range_with_len}
use Rattle.quiver_paths.specs.PathList.{behind_arrow}
use Rattle.quiver_paths.proofs.listing.push_longer.Given as goal

abbrev pub invariant-loop-a : goal.invariant-loop-a
invariant-loop-a l =
    (l.end ≡ vec_len l.fn.paths)
    × (l.paths.items
    ≡ l.fn.paths.items ++ flat_map (behind_arrow l.quiver (drop l.begin l.fn.paths.items)) (range_with_len 0 l.a))
