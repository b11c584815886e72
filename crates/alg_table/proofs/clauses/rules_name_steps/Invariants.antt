use Rattle.std.proofs.Common.{ℕ, ◌<◌, get_or}
use Rattle.path_algebra.specs.declared.rules.Rule.{Rule}
use Rattle.path_algebra.specs.Derivations.{IsNumber}
use Rattle.alg_table.proofs.clauses.rules_name_steps.Given as goal

abbrev pub invariant-loop-rule : goal.invariant-loop-rule
invariant-loop-rule l = (j : ℕ) (r : Rule) → j < l.rule-index → IsNumber l.steps (get_or l.rules j r).step
