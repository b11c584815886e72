use Rattle.std.proofs.Common.{ℕ, ◌<◌, get_or}
use Rattle.path_algebra.specs.declared.rules.Rule.{Rule}
use Rattle.path_algebra.specs.Occurring.{IsReducedAmong}
use Rattle.alg_table.proofs.reduced.reduced_holds.Given as goal

abbrev pub invariant-loop-rule : goal.invariant-loop-rule
invariant-loop-rule l = (j : ℕ) (r : Rule) → j < l.rule-index → IsReducedAmong l.header l.rules (get_or l.rules j r)
