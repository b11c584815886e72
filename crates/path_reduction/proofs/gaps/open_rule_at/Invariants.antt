use Rattle.std.proofs.Common.{ℕ, ◌≤◌}
use Rattle.path_reduction.specs.FirstGaps.{ForReductions, ClosesTo}
use Rattle.path_reduction.proofs.gaps.open_rule_at.Given as goal

abbrev pub invariant-loop-last : goal.invariant-loop-last
invariant-loop-last l = (end : ℕ) → end ≤ l.last → ForReductions l.header l.rules (ClosesTo l.header l.rules l.path l.at end)
