use Rattle.std.proofs.Common.{ℕ, ◌<◌, get_or}
use Rattle.path_algebra.specs.declared.rules.Rule.{Rule}
use Rattle.path_algebra.specs.BasisClauses.{RuleHolds}
use Rattle.alg_table.proofs.clauses.rules_hold.Given as goal

abbrev pub invariant-loop-rule : goal.invariant-loop-rule
invariant-loop-rule l = (j : ℕ) (r : Rule) → j < l.rule-index → RuleHolds l.header l.steps (get_or l.rules j r)
