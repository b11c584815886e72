use Rattle.std.proofs.Common.{◌≡◌, ◌+◌, ◌*◌, length}
use Rattle.quiver_paths.specs.Quiver.{arrow_count}
use Rattle.path_reduction.specs.ShortPaths.{AreBehind}
use Rattle.path_reduction.proofs.short_paths.push_places.Given as goal

abbrev pub invariant-loop-arrow : goal.invariant-loop-arrow
invariant-loop-arrow l = record {
  size : length l.behind.items ≡ l.place * arrow_count l.header.quiver + l.arrow;
  places : AreBehind l.paths (arrow_count l.header.quiver) l.behind.items;
}
