use Rattle.std.proofs.Common.{◌≢◌, ◌<◌, ℕ}
use Rattle.linear_algebra.specs.Field.{mul}
use Rattle.fp_linear.proofs.field.Field.inv.Given as goal

abbrev pub invariant-loop-b : goal.invariant-loop-b
invariant-loop-b l = (k : ℕ) → k < l.b → mul l.self l.a k ≢ 1
