use Rattle.std.proofs.Common.{◌-◌}
use Rattle.path_reduction.specs.Reducing.{AreZeros}
use Rattle.path_reduction.proofs.dense.last_place.Given as goal

abbrev pub invariant-loop-passed : goal.invariant-loop-passed
invariant-loop-passed l = AreZeros l.coefs (l.end - l.passed) l.end
