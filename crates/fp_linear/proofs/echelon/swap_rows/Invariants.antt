use Rattle.linear_algebra.specs.Field.{Gf}
use Rattle.fp_linear.specs.Slices.{AreElements, cell}
use Rattle.fp_linear.specs.Elimination.{AreExchangedBelow}
use Rattle.fp_linear.proofs.echelon.swap_rows.Given as goal

abbrev pub invariant-loop-j : goal.invariant-loop-j
invariant-loop-j l = record {
  exchanged : AreExchangedBelow l.rows l.cols l.a l.b l.j (cell l.cols l.initial.entries) (cell l.cols l.entries);
  elements : (q : Gf) → AreElements q l.initial.entries → AreElements q l.entries;
}
