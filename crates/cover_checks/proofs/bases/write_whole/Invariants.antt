use Rattle.linear_algebra.specs.Field.{Gf}
use Rattle.fp_linear.specs.Slices.{AreElements}
use Rattle.cover_checks.specs.Bases.{AreUnitRows}
use Rattle.cover_checks.proofs.bases.write_whole.Given as goal

abbrev pub invariant-loop-i : goal.invariant-loop-i
invariant-loop-i l = record {
  elements : (q : Gf) → AreElements q l.basis;
  units : AreUnitRows l.n l.i l.basis;
}
