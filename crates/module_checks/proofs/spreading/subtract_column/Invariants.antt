use Rattle.fp_linear.specs.Slices.{AreElements}
use Rattle.module_checks.specs.Spreading.{IsSpread, from_first, negated_column}
use Rattle.module_checks.proofs.spreading.subtract_column.Given as goal

abbrev pub invariant-loop-l : goal.invariant-loop-l
invariant-loop-l l = record {
  spread : IsSpread l.field l.start l.count l.l (negated_column l.field l.matrix.rows l.j) (from_first l.first) l.initial.entries l.entries;
  elements : AreElements l.field l.entries;
}
