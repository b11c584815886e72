use Rattle.linear_algebra.specs.Field.{Gf}
use Rattle.linear_algebra.specs.Matrix.{delta}
use Rattle.fp_linear.specs.Slices.{AreElements, IsWritten}
use Rattle.cover_checks.proofs.copying.put_unit.Given as goal

abbrev pub invariant-loop-j : goal.invariant-loop-j
invariant-loop-j l = record {
  written : IsWritten l.initial.target l.target l.at l.j (delta l.i);
  elements : (q : Gf) → AreElements q l.initial.target → AreElements q l.target;
}
