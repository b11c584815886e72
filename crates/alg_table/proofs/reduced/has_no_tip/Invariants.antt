use Rattle.std.proofs.Common.{ℕ, ◌<◌, get_or}
use Rattle.path_algebra.specs.declared.Term.{Term}
use Rattle.path_algebra.specs.Reduction.{HasNoTip}
use Rattle.alg_table.proofs.reduced.has_no_tip.Given as goal

abbrev pub invariant-loop-term : goal.invariant-loop-term
invariant-loop-term l = (j : ℕ) (t : Term) → j < l.term-index → HasNoTip l.header l.rules (get_or l.terms j t).path
