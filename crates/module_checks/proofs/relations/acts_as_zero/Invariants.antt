use Rattle.std.proofs.Common.{ℕ, ◌<◌}
use Rattle.fp_linear.specs.Slices.{AreElements}
use Rattle.module_types.specs.Readings.{read}
use Rattle.module_checks.specs.RowWalks.{IsZeroInRow}
use Rattle.module_checks.proofs.relations.acts_as_zero.Given as goal

abbrev pub invariant-loop-i : goal.invariant-loop-i
invariant-loop-i l = record {
  zero : (k : ℕ) → k < l.i → IsZeroInRow (read l.header l.m) l.m.side l.relation.terms k;
  next_elements : AreElements l.header.field l.next;
}
