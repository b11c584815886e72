use Rattle.std.proofs.Common.{length}
use Rattle.functional_checks.specs.Values.{VanishUpTo}
use Rattle.functional_checks.proofs.functional.vanish.Given as goal

abbrev pub invariant-loop-i : goal.invariant-loop-i
invariant-loop-i l = VanishUpTo l.field (length l.values) l.rows l.values l.i
