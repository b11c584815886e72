use Rattle.row_spaces.specs.FreeColumns.{AreFree}
use Rattle.row_spaces.proofs.columns.free_columns.Given as goal

abbrev pub invariant-loop-column : goal.invariant-loop-column
invariant-loop-column l = AreFree l.column l.pivots l.free.items
