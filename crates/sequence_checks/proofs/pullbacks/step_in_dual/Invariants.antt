use Rattle.fp_linear.specs.Slices.{AreElements}
use Rattle.sequence_checks.proofs.PartRows.{HasDots}
use Rattle.sequence_checks.proofs.pullbacks.step_in_dual.Given as goal

abbrev pub invariant-loop-j : goal.invariant-loop-j
invariant-loop-j l = record { dots : HasDots l.header.field l.matrix l.row l.next l.j; elements : AreElements l.header.field l.next }
