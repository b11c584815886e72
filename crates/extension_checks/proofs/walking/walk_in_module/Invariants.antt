use Rattle.fp_linear.specs.Slices.{AreElements}
use Rattle.module_types.specs.Readings.{read}
use Rattle.module_checks.specs.RowWalks.{IsMovedBy}
use Rattle.extension_checks.proofs.walking.walk_in_module.Given as goal

abbrev pub invariant-loop-n : goal.invariant-loop-n
invariant-loop-n l = record {
  moved : IsMovedBy (read l.header l.m) l.m.side l.n l.arrows l.initial.row l.row;
  elements : AreElements l.header.field l.row;
}
