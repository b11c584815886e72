use Rattle.object_lines.proofs.MatrixReading.{row_answer}
use Rattle.object_lines.proofs.matrices.take_row.Goals as goal

pub returns : goal.returns
returns c = row_answer c.in_ok-taken.taken c.args.field c.args.i c.args.cols _ _ c.args.tokens.now c.take_slash.new.tokens _ (rw c.if-not-take_slash.false at c.take_slash.ensures) c.in_ok-taken.ensures
