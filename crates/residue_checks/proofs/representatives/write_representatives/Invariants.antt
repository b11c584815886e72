use Rattle.std.specs.Prelude.{length}
use Rattle.fp_linear.specs.Slices.{AreElements}
use Rattle.local_checks.specs.Families.{family_rows, family_space}
use Rattle.local_checks.specs.Remainders.{AreRemaindersUpTo}
use Rattle.residue_checks.specs.RingsModulo.{members}
use Rattle.residue_checks.proofs.representatives.write_representatives.Given as goal

abbrev pub invariant-loop-i : goal.invariant-loop-i
invariant-loop-i l = record {
  elements : AreElements l.fn.header.field l.some;
  remainders : AreRemaindersUpTo l.fn.header l.fn.m l.fn.rows l.fn.pivots (members (family_space l.fn.header l.fn.m l.ring l.fn.ring_pivots)) (family_rows l.fn.header l.fn.m (length l.fn.ring_pivots) l.some) l.i;
}
