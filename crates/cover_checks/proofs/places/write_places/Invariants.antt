use Rattle.cover_checks.specs.Bases.{ArePlaces}
use Rattle.cover_checks.proofs.places.write_places.Given as goal

abbrev pub invariant-loop-i : goal.invariant-loop-i
invariant-loop-i l = ArePlaces l.width l.i l.entries l.places
