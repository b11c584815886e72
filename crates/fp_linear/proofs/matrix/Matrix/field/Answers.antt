use Rattle.fp_linear.proofs.Matrices.{IsMatrix-held}
use Rattle.fp_linear.proofs.matrix.Matrix.field.Goals as goal

pub returns-clause-matrix : goal.returns-clause-matrix
returns-clause-matrix c = rw (← c.self.view_is) (IsMatrix-held _ _ _ _ c.self.invariant)
