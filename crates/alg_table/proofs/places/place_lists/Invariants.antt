use Rattle.std.proofs.Common.{◌≡◌, ◌*◌, length}
use Rattle.alg_table.specs.WordPlaces.{ArePlaceLists}
use Rattle.alg_table.proofs.places.place_lists.Given as goal

abbrev pub invariant-loop-start : goal.invariant-loop-start
invariant-loop-start l = record {
  lists : ArePlaceLists l.words l.vertices l.lists;
  count : length l.lists ≡ l.start * l.vertices;
}
