use Rattle.module_types.specs.Readings.{read, read_beside}
use Rattle.module_checks.proofs.Squares.{AreSquaresUpTo}
use Rattle.module_faults.proofs.maps.first_failing_arrow.Given as goal

abbrev pub invariant-loop-k : goal.invariant-loop-k
invariant-loop-k l = AreSquaresUpTo (read l.header l.a) (read_beside l.header l.a l.b) l.matrices l.k
