use Rattle.linear_algebra.specs.Field.{Gf}
use Rattle.fp_linear.specs.Slices.{AreElements}
use Rattle.module_checks.proofs.PathImages.{AreUnitsUpTo}
use Rattle.module_checks.proofs.long_paths.write_unit_rows.Given as goal

abbrev pub invariant-loop-i : goal.invariant-loop-i
invariant-loop-i l = record {
  units : AreUnitsUpTo l.count l.i l.entries;
  elements : (q : Gf) → AreElements q l.entries;
}
