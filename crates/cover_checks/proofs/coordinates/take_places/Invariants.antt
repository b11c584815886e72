use Rattle.linear_algebra.specs.Field.{Gf}
use Rattle.fp_linear.specs.Slices.{AreElements}
use Rattle.cover_checks.specs.Bases.{AreAtPlaces}
use Rattle.cover_checks.proofs.coordinates.take_places.Given as goal

abbrev pub invariant-loop-i : goal.invariant-loop-i
invariant-loop-i l = record {
  elements : (q : Gf) → AreElements q l.row → AreElements q l.coordinates;
  taken : AreAtPlaces l.i l.places l.row l.coordinates;
}
