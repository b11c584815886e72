use Rattle.std.proofs.Common.{ℕ, ◌≤◌, take}
use Rattle.path_algebra.specs.Occurring.{EndsInTip}
use Rattle.path_reduction.proofs.occurrences.first_occurrence.Given as goal

abbrev pub invariant-loop-end : goal.invariant-loop-end
invariant-loop-end l = (k : ℕ) → k ≤ l.end → EndsInTip l.rules (take k l.arrows) → ⊥
