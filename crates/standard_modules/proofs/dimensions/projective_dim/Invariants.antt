use Rattle.std.proofs.Common.{◌≡◌}
use Rattle.linear_algebra.specs.BlockFamilies.{total}
use Rattle.term_rows.specs.SumDims.{count_to}
use Rattle.standard_modules.proofs.dimensions.projective_dim.Given as goal

abbrev pub invariant-loop-w : goal.invariant-loop-w
invariant-loop-w l = l.dim ≡ total l.w (count_to l.table.words l.fn.side l.v)
