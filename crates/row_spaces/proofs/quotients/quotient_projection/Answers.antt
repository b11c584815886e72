use Rattle.row_spaces.proofs.OrthogonalForms.{quotient_of_columns, IsMatrix-columns}
use Rattle.row_spaces.proofs.quotients.quotient_projection.Goals as goal

pub returns-clause-quotient : goal.returns-clause-quotient
returns-clause-quotient c = rw c.in_ok-onto.ensures (quotient_of_columns c.args.matrix c.in_ok-columns.columns c.in_ok-columns.ensures.shape c.in_ok-columns.ensures.basis)

pub returns-clause-matrix : goal.returns-clause-matrix
returns-clause-matrix c = rw c.in_ok-onto.ensures (IsMatrix-columns c.in_ok-columns.columns c.in_ok-columns.ensures.matrix)
