use Rattle.std.proofs.Common.{◌≡◌}
use Rattle.linear_algebra.specs.BlockFamilies.{total}
use Rattle.term_rows.specs.RowSteps.{part_dim}
use Rattle.term_rows.proofs.term_matrices.sum_dimension.Given as goal

abbrev pub invariant-loop-j : goal.invariant-loop-j
invariant-loop-j l = l.count ≡ total l.j (part_dim l.table.words l.fn.side l.vertices l.w)
