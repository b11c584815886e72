use Rattle.sequence_checks.specs.Maps.{AreLast}
use Rattle.sequence_checks.proofs.maps.are_last.Given as goal

abbrev pub invariant-loop-r : goal.invariant-loop-r
invariant-loop-r l = AreLast l.g l.j l.start l.r
