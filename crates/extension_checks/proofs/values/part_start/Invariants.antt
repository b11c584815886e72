use Rattle.std.proofs.Common.{◌≡◌}
use Rattle.linear_algebra.specs.BlockFamilies.{total}
use Rattle.term_rows.specs.RowSteps.{part_dim}
use Rattle.extension_checks.proofs.values.part_start.Given as goal

abbrev pub invariant-loop-g : goal.invariant-loop-g
invariant-loop-g l = l.count ≡ total l.g (part_dim l.table.words l.fn.side l.vertices l.fn.w)
