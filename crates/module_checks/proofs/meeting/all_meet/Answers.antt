use Rattle.linear_algebra.proofs.Rows.{row-entry}
use Rattle.module_checks.proofs.meeting.all_meet.Goals as goal

pub row_meets-requires-clause-row_elements : goal.row_meets-requires-clause-row_elements
row_meets-requires-clause-row_elements c = record {
  small = λ k.
      rw (c.row.ensures.row, row-entry c.args.matrix.now.rows c.loop-i.i k, ← c.requires.field) (c.row.ensures.matrix.grid.small c.loop-i.i k);
}
