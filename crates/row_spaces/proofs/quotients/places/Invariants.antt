use Rattle.row_spaces.specs.RowSpaces.{HasPlaces}
use Rattle.row_spaces.proofs.quotients.places.Given as goal

abbrev pub invariant-loop-column : goal.invariant-loop-column
invariant-loop-column l = HasPlaces l.projection l.column l.places.items
