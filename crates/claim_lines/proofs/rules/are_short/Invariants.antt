use Rattle.std.proofs.Common.{ℕ, ◌<◌, get_or}
use Rattle.path_algebra.specs.declared.Term.{Term}
use Rattle.quiver_paths.specs.Path.{path_length}
use Rattle.claim_lines.proofs.rules.are_short.Given as goal

abbrev pub invariant-loop-term : goal.invariant-loop-term
invariant-loop-term l = (k : ℕ) (d : Term) → k < l.term-index → path_length (get_or l.terms k d).path < l.bound
