use Rattle.std.proofs.Common.{◌≡◌, ◌*◌, length}
use Rattle.quiver_paths.specs.Quiver.{arrow_count}
use Rattle.path_reduction.specs.ShortPaths.{AreBehind}
use Rattle.path_reduction.proofs.short_paths.places_behind.Given as goal

abbrev pub invariant-loop-place : goal.invariant-loop-place
invariant-loop-place l = record {
  size : length l.behind.items ≡ l.place * arrow_count l.header.quiver;
  places : AreBehind l.paths (arrow_count l.header.quiver) l.behind.items;
}
