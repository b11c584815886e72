use Rattle.fp_linear.specs.Slices.{AreElements}
use Rattle.module_types.specs.Readings.{read}
use Rattle.module_checks.specs.RowWalks.{IsMovedBy}
use Rattle.module_checks.proofs.walking.walk_row.Given as goal

abbrev pub invariant-loop-k : goal.invariant-loop-k
invariant-loop-k l = record {
  moved : IsMovedBy (read l.header l.m) l.m.side l.k l.arrows l.initial.row l.row;
  elements : AreElements l.header.field l.row;
  next_elements : AreElements l.header.field l.next;
}
