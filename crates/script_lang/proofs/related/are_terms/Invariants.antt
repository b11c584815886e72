use Rattle.std.proofs.Common.{ℕ, ◌<◌, get_or}
use Rattle.path_algebra.specs.declared.Term.{Term}
use Rattle.path_algebra.specs.Allowed.{IsTerm}
use Rattle.script_lang.proofs.related.are_terms.Given as goal

abbrev pub invariant-loop-term : goal.invariant-loop-term
invariant-loop-term l = (k : ℕ) (d : Term) → k < l.term-index → IsTerm l.header (get_or l.terms k d)
