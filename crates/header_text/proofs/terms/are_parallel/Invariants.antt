use Rattle.std.proofs.Common.{ℕ, ◌<◌, get_or}
use Rattle.path_algebra.specs.declared.Term.{Term}
use Rattle.path_algebra.specs.Allowed.{IsParallel}
use Rattle.header_text.proofs.terms.are_parallel.Given as goal

abbrev pub invariant-loop-term : goal.invariant-loop-term
invariant-loop-term l = (k : ℕ) (d : Term) → k < l.term-index → IsParallel (get_or l.terms 0 d).path (get_or l.terms k d).path
