use Rattle.fp_linear.specs.Slices.{AreElements}
use Rattle.module_faults.specs.RelationActions.{AreRelationsZero}
use Rattle.module_faults.proofs.relations.first_failing.Given as goal

abbrev pub invariant-loop-r : goal.invariant-loop-r
invariant-loop-r l = record { zero : AreRelationsZero l.header l.m l.r; next_elements : AreElements l.header.field l.next }
