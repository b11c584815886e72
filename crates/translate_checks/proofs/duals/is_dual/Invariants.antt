use Rattle.translate_checks.specs.Duals.{AreTransposed}
use Rattle.translate_checks.proofs.duals.is_dual.Given as goal

abbrev pub invariant-loop-k : goal.invariant-loop-k
invariant-loop-k l = AreTransposed l.a.matrices l.b.matrices l.k
