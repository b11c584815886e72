use Rattle.linear_algebra.specs.Field.{Gf}
use Rattle.fp_linear.specs.Slices.{AreElements}
use Rattle.cover_checks.specs.Bases.{AreExtended}
use Rattle.cover_checks.proofs.kernels.extend.Given as goal

abbrev pub invariant-loop-i : goal.invariant-loop-i
invariant-loop-i l = record {
  elements : (q : Gf) → AreElements q l.entries → AreElements q l.wide;
  extended : AreExtended l.rows l.cols l.i l.entries l.wide;
}
