use Rattle.row_spaces.specs.PushedRows.{HasRows, picked_entry}
use Rattle.row_spaces.proofs.coefficients.coordinates_of_rows.Given as goal

abbrev pub invariant-loop-i : goal.invariant-loop-i
invariant-loop-i l = HasRows l.basis.field l.basis.row_count l.i (picked_entry l.matrix.rows l.pivots.items) l.entries.items
