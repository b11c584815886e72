use Rattle.std.proofs.Common.{◌≡◌, ap, arith}
use Rattle.fp_linear.specs.Matrix.{PlainMatrix}
use Rattle.fp_linear.proofs.Matrices.{IsMatrix-held, row-part}
use Rattle.rep_arena.proofs.views.MatrixRef.row.Goals as goal

pub returns-clause-row : goal.returns-clause-row
returns-clause-row c =
    let count : c.self.inside.rows ≡ c.args.self.now.row_count = ap (λ (m : PlainMatrix). m.row_count) c.self.view_is in
    rw (← c.self.view_is) (row-part c.self.inside.rows c.self.inside.cols c.args.i _ c.self.inside.entries.now c.self.invariant.count (omega arith) (omega arith))

pub returns-clause-matrix : goal.returns-clause-matrix
returns-clause-matrix c = rw (← c.self.view_is) (IsMatrix-held _ _ _ _ c.self.invariant)
