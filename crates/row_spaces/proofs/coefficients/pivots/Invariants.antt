use Rattle.row_spaces.specs.PushedRows.{HasLeading}
use Rattle.row_spaces.proofs.coefficients.pivots.Given as goal

abbrev pub invariant-loop-i : goal.invariant-loop-i
invariant-loop-i l = HasLeading l.matrix.rows l.i l.pivots.items
