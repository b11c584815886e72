use Rattle.row_spaces.proofs.OrthogonalForms.{kernel_of_columns}
use Rattle.row_spaces.proofs.kernels.left_kernel.Goals as goal

pub returns-clause-basis : goal.returns-clause-basis
returns-clause-basis c = kernel_of_columns c.args.matrix.now c.in_ok-equations.equations c.in_ok-basis.basis.row_count c.in_ok-basis.basis.rows c.in_ok-equations.ensures c.in_ok-basis.ensures.basis
