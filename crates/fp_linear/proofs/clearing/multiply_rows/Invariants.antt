use Rattle.fp_linear.specs.Slices.{cell}
use Rattle.fp_linear.specs.Products.{HasProductRows}
use Rattle.fp_linear.proofs.clearing.multiply_rows.Given as goal

abbrev pub invariant-loop-i : goal.invariant-loop-i
invariant-loop-i l = HasProductRows l.field l.inner l.cols l.i (cell l.inner l.left) (cell l.cols l.right) (cell l.cols l.out)
