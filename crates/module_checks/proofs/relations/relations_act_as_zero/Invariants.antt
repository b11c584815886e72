use Rattle.fp_linear.specs.Slices.{AreElements}
use Rattle.module_checks.specs.RowWalks.{AllActAsZero}
use Rattle.module_checks.proofs.relations.relations_act_as_zero.Given as goal

abbrev pub invariant-loop-r : goal.invariant-loop-r
invariant-loop-r l = record { zero : AllActAsZero l.header l.m l.r; next_elements : AreElements l.header.field l.next }
