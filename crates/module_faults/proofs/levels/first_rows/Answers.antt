use Rattle.std.proofs.Common.{◌∙◌, ap, arith}
use Rattle.fp_linear.specs.Matrix.{plain}
use Rattle.module_faults.proofs.LevelRows.{rows_of-take}
use Rattle.module_faults.proofs.levels.first_rows.Goals as goal

pub returns : goal.returns
returns c = c.in_ok-matrix.ensures ∙ ap (plain c.args.field c.args.count c.args.unknowns) (rows_of-take c.args.count c.args.unknowns _ c.args.images.now (omega arith))
