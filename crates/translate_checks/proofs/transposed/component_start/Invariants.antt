use Rattle.std.proofs.Common.{◌≡◌}
use Rattle.linear_algebra.specs.BlockFamilies.{total}
use Rattle.term_rows.specs.RowSteps.{part_dim}
use Rattle.translate_checks.proofs.transposed.component_start.Given as goal

abbrev pub invariant-loop-c : goal.invariant-loop-c
invariant-loop-c l = l.count ≡ total l.c (part_dim l.table.words l.fn.side l.vertices l.w)
