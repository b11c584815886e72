use Rattle.module_operations.proofs.Diagonals.{beside_by_columns}
use Rattle.module_operations.proofs.sums.beside.Goals as goal

pub returns : goal.returns
returns c =
    beside_by_columns c.args.left.now c.args.right.now c.in_ok-left.left c.in_ok-right.right c.in_ok-columns.columns c.in_ok-matrix.matrix c.requires.left c.requires.right c.requires.field c.requires.rows
    c.in_ok-left.ensures c.in_ok-right.ensures c.in_ok-columns.ensures c.in_ok-matrix.ensures
