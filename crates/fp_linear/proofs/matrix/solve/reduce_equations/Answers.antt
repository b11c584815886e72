use Rattle.std.proofs.Common.{◌+◌}
use Rattle.linear_algebra.specs.Rows.{rows_of}
use Rattle.fp_linear.proofs.SolveOf.{AreEquations-written}
use Rattle.fp_linear.proofs.matrix.solve.reduce_equations.Goals as goal

pub returns-clause-equations : goal.returns-clause-equations
returns-clause-equations c = record {
  start = rows_of c.args.cols (c.args.rows + c.args.count) c.put_columns-2.new.target;
  equations = AreEquations-written c.args.field c.args.rows c.args.count c.args.cols c.args.left.now c.args.right.now c.put_columns.new.target c.put_columns-2.new.target _
      (c.put_columns-2.ensures.elements c.args.field c.requires.right_elements (c.put_columns.ensures.elements c.args.field c.requires.left_elements c.requires.elements)) c.put_columns.ensures.columns c.put_columns-2.ensures.columns;
  form = c.echelon_rows.ensures.form;
}
