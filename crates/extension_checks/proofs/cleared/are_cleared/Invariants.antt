use Rattle.extension_checks.specs.Cleared.{AreClearedAt}
use Rattle.extension_checks.proofs.cleared.are_cleared.Given as goal

abbrev pub invariant-loop-i : goal.invariant-loop-i
invariant-loop-i l = AreClearedAt l.matrix.rows l.i l.places l.count
