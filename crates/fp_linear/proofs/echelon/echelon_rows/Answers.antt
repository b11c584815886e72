use Rattle.std.proofs.Common.{◌≡◌, arith}
use Rattle.fp_linear.proofs.Result.{ReducesTo-done}
use Rattle.fp_linear.proofs.echelon.echelon_rows.Goals as goal

pub returns-clause-form : goal.returns-clause-form
returns-clause-form c =
    let end : c.loop-column.column ≡ c.args.cols = omega arith in
    ReducesTo-done c.args.field c.args.rows c.args.cols c.loop-column.rank c.args.entries.now c.loop-column.entries c.loop-column.pivots c.loop-column.invariant.elements (rw end at c.loop-column.invariant.partly) c.loop-column.invariant.span (omega arith)
