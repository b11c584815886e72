use Rattle.extension_checks.specs.Cleared.{IsClearedAt}
use Rattle.extension_checks.proofs.cleared.is_cleared.Given as goal

abbrev pub invariant-loop-k : goal.invariant-loop-k
invariant-loop-k l = IsClearedAt l.row l.places l.k
