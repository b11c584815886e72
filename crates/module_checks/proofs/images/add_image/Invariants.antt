use Rattle.fp_linear.specs.Slices.{AreElements}
use Rattle.module_checks.specs.Spreading.{IsSpread, from_first}
use Rattle.module_checks.specs.PathImages.{image_entry}
use Rattle.module_checks.proofs.images.add_image.Given as goal

abbrev pub invariant-loop-j : goal.invariant-loop-j
invariant-loop-j l = record {
  spread : IsSpread l.field l.start l.count l.j (image_entry l.field l.row l.from l.matrix) (from_first l.first) l.initial.entries l.entries;
  elements : AreElements l.field l.entries;
}
