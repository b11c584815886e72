use Rattle.std.specs.Prelude.{slice_index}
use Rattle.linear_algebra.specs.Field.{Gf}
use Rattle.fp_linear.specs.Slices.{AreElements}
use Rattle.extension_checks.specs.Asking.{IsColumnWritten}
use Rattle.extension_checks.proofs.folding.put_column.Given as goal

abbrev pub invariant-loop-z : goal.invariant-loop-z
invariant-loop-z l = record {
  written : IsColumnWritten l.width l.place l.z (slice_index l.source) l.initial.block l.block;
  elements : (q : Gf) → AreElements q l.source → AreElements q l.initial.block → AreElements q l.block;
}
