use Rattle.translate_checks.specs.Duals.{IsTransposed}
use Rattle.translate_checks.proofs.duals.is_transposed.Given as goal

abbrev pub invariant-loop-i : goal.invariant-loop-i
invariant-loop-i l = IsTransposed l.a l.b l.i
