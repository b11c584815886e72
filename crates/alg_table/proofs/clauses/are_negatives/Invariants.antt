use Rattle.std.proofs.Common.{ℕ, ◌<◌, ◌≡◌, get_or}
use Rattle.path_algebra.specs.declared.Term.{Term}
use Rattle.path_algebra.specs.ElementTerms.{negative}
use Rattle.alg_table.proofs.clauses.are_negatives.Given as goal

abbrev pub invariant-loop-i : goal.invariant-loop-i
invariant-loop-i l = (j : ℕ) (t : Term) → j < l.i → get_or l.terms j t ≡ negative l.field (get_or l.tail j t)
