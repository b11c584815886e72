use Rattle.std.proofs.Common.{ℕ, ◌<◌, get_or}
use Rattle.quiver_paths.specs.PathOrder.{IsSmaller}
use Rattle.path_algebra.specs.declared.rules.Rule.{Rule}
use Rattle.path_basis.proofs.inserting.place_of.Given as goal

abbrev pub invariant-loop-place : goal.invariant-loop-place
invariant-loop-place l = (k : ℕ) (d : Rule) → k < l.place → IsSmaller (get_or l.rules k d).tip l.path
