use Rattle.linear_algebra.specs.Rows.{entry}
use Rattle.fp_linear.specs.Slices.{AreElements}
use Rattle.module_checks.specs.Spreading.{IsSpread, in_steps}
use Rattle.module_checks.proofs.spreading.add_row.Given as goal

abbrev pub invariant-loop-k : goal.invariant-loop-k
invariant-loop-k l = record {
  spread : IsSpread l.field l.start l.count l.k (entry l.matrix.rows l.i) (in_steps l.first l.step) l.initial.entries l.entries;
  elements : AreElements l.field l.entries;
}
