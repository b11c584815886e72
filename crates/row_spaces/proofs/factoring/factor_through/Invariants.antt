use Rattle.row_spaces.specs.PushedRows.{HasRows, chosen_entry}
use Rattle.row_spaces.proofs.factoring.factor_through.Given as goal

abbrev pub invariant-loop-i : goal.invariant-loop-i
invariant-loop-i l = HasRows l.projection.field l.matrix.col_count l.i (chosen_entry l.matrix.rows l.places.items) l.entries.items
