use Rattle.fp_linear.specs.Slices.{AreElements}
use Rattle.representations.specs.Dual.{dual}
use Rattle.module_types.specs.Algebras.{algebra_at, other_side}
use Rattle.module_types.specs.Readings.{rep_of}
use Rattle.module_checks.specs.RowWalks.{IsMovedBy}
use Rattle.sequence_checks.proofs.pullbacks.walk_in_dual.Given as goal

abbrev pub invariant-loop-n : goal.invariant-loop-n
invariant-loop-n l = record {
  moved : IsMovedBy (dual (rep_of l.header.field (algebra_at l.side l.header).quiver l.m)) (other_side l.side) l.n l.arrows l.initial.row l.row;
  elements : AreElements l.header.field l.row;
}
