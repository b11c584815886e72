use Rattle.object_lines.proofs.MatrixReading.{rows_more, no_more_rows}
use Rattle.object_lines.proofs.matrices.take_rows.Goals as goal

pub returns-then-not-taken : goal.returns-then-not-taken
returns-then-not-taken c = no_more_rows c.args.field c.loop-i.i c.args.rows c.args.cols _ c.args.tokens.now _ c.loop-i.invariant c.loop-i-test.true (rw c.if-not-taken.true at c.in_ok-taken.ensures)

pub loop-i-preserved : goal.loop-i-preserved
loop-i-preserved c = rows_more c.args.field c.loop-i.i c.args.cols _ _ c.args.tokens.now _ _ c.loop-i.invariant (rw c.if-not-taken.false at c.in_ok-taken.ensures)
