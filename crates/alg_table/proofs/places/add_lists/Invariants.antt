use Rattle.std.proofs.Common.{◌≡◌, ◌+◌, ◌*◌, length}
use Rattle.alg_table.specs.WordPlaces.{ArePlaceLists}
use Rattle.alg_table.proofs.places.add_lists.Given as goal

abbrev pub invariant-loop-end : goal.invariant-loop-end
invariant-loop-end l = record {
  lists : ArePlaceLists l.words l.vertices l.lists;
  count : length l.lists ≡ l.start * l.vertices + l.end;
}
