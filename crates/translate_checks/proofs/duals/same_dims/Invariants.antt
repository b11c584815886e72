use Rattle.translate_checks.specs.Duals.{AgreeBelow}
use Rattle.translate_checks.proofs.duals.same_dims.Given as goal

abbrev pub invariant-loop-v : goal.invariant-loop-v
invariant-loop-v l = AgreeBelow l.a l.b l.v
