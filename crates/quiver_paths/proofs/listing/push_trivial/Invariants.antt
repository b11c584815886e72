use Rattle.std.proofs.Common.{◌≡◌, ◌++◌, map}
use Rattle.std.specs.List.{range_with_len}
use Rattle.quiver_paths.specs.Path.{trivial_path}
use Rattle.quiver_paths.proofs.listing.push_trivial.Given as goal

abbrev pub invariant-loop-v : goal.invariant-loop-v
invariant-loop-v l = l.paths.items ≡ l.fn.paths.items ++ map trivial_path (range_with_len 0 l.v)
