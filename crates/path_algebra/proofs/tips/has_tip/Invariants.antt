use Rattle.std.proofs.Common.{ℕ, ◌≤◌, take}
use Rattle.path_algebra.specs.Occurring.{EndsInTip}
use Rattle.path_algebra.proofs.tips.has_tip.Given as goal

abbrev pub invariant-loop-place : goal.invariant-loop-place
invariant-loop-place l = (j : ℕ) → j ≤ l.place → EndsInTip l.rules (take j l.arrows) → ⊥
