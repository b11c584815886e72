use Rattle.std.proofs.Common.{ℕ, ◌<◌, drop}
use Rattle.path_algebra.specs.Occurring.{IsTipOf}
use Rattle.path_algebra.proofs.tips.ends_in_tip.Given as goal

abbrev pub invariant-loop-place : goal.invariant-loop-place
invariant-loop-place l = (j : ℕ) → j < l.place → IsTipOf l.rules (drop j l.arrows) → ⊥
