use Rattle.std.proofs.Common.{ℕ, ◌<◌, get_or}
use Rattle.quiver_paths.specs.declared.Path.{Path}
use Rattle.path_reduction.specs.FirstGaps.{ForReductions, ClosesAll}
use Rattle.path_reduction.proofs.gaps.first_gap_among.Given as goal

abbrev pub invariant-loop-path : goal.invariant-loop-path
invariant-loop-path l = (k : ℕ) (d : Path) → k < l.path-index → ForReductions l.header l.rules (λ becomes. ClosesAll l.header l.rules becomes (get_or l.paths k d))
