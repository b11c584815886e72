use Rattle.std.proofs.Common.{ℕ, ◌<◌, ◌≡◌, ◌+◌, ◌*◌, get_or}
use Rattle.linear_algebra.specs.Field.{Gf}
use Rattle.fp_linear.specs.Slices.{AreElements}
use Rattle.cover_checks.proofs.kernels.copy_ends.Given as goal

abbrev pub invariant-loop-i : goal.invariant-loop-i
invariant-loop-i l = record {
  ends : (i j : ℕ) → i < l.i → j < l.taken → get_or l.target (i * l.taken + j) 0 ≡ get_or l.source ((l.first + i) * l.width + (l.from + j)) 0;
  elements : (q : Gf) → AreElements q l.source → AreElements q l.initial.target → AreElements q l.target;
}
