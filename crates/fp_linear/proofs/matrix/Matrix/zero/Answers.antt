use Rattle.std.proofs.Common.{ap}
use Rattle.fp_linear.specs.Matrix.{plain}
use Rattle.fp_linear.proofs.Matrices.{rows_of-zeros}
use Rattle.fp_linear.proofs.matrix.Matrix.zero.Goals as goal

pub returns : goal.returns
returns c = ap (plain c.args.field c.args.rows c.args.cols) (rows_of-zeros c.args.rows c.args.cols c.in_ok-entries.entries.items (c.in_ok-entries.ensures.items_if_clones_equal (λ y h. h)))
