use Rattle.std.proofs.Common.{ℕ, ◌<◌, drop}
use Rattle.path_algebra.specs.Occurring.{IsTipOf}
use Rattle.path_reduction.proofs.occurrences.occurrence_at_end.Given as goal

abbrev pub invariant-loop-before : goal.invariant-loop-before
invariant-loop-before l = (j : ℕ) → j < l.before → IsTipOf l.rules (drop j l.arrows) → ⊥
