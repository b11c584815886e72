use Rattle.fp_linear.specs.Slices.{AreElements, IsWritten, scaled}
use Rattle.fp_linear.proofs.echelon.scale_row.Given as goal

abbrev pub invariant-loop-j : goal.invariant-loop-j
invariant-loop-j l = record {
  written : IsWritten l.initial.entries l.entries l.start l.j (scaled l.field l.factor l.start l.initial.entries);
  elements : AreElements l.field l.entries;
}
