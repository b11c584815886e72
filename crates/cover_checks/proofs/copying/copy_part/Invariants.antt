use Rattle.linear_algebra.specs.Field.{Gf}
use Rattle.fp_linear.specs.Slices.{AreElements, IsWritten, copied}
use Rattle.cover_checks.proofs.copying.copy_part.Given as goal

abbrev pub invariant-loop-j : goal.invariant-loop-j
invariant-loop-j l = record {
  written : IsWritten l.initial.target l.target l.at l.j (copied l.from l.source);
  elements : (q : Gf) → AreElements q l.source → AreElements q l.initial.target → AreElements q l.target;
}
