use Rattle.std.proofs.Common.{ℕ, ◌<◌, get_or}
use Rattle.path_algebra.specs.declared.Term.{Term}
use Rattle.quiver_paths.specs.PathOrder.{IsSmaller}
use Rattle.claim_lines.proofs.rules.are_descending.Given as goal

abbrev pub invariant-loop-i : goal.invariant-loop-i
invariant-loop-i l = (j k : ℕ) (d : Term) → j < k → k < l.i → IsSmaller (get_or l.terms k d).path (get_or l.terms j d).path
