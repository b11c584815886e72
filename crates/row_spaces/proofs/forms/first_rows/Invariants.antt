use Rattle.linear_algebra.specs.Rows.{entry}
use Rattle.row_spaces.specs.PushedRows.{HasRows}
use Rattle.row_spaces.proofs.forms.first_rows.Given as goal

abbrev pub invariant-loop-i : goal.invariant-loop-i
invariant-loop-i l = HasRows l.matrix.field l.matrix.col_count l.i (entry l.matrix.rows) l.entries.items
