use Rattle.std.proofs.Common.{ℕ, ◌<◌, ◌≢◌}
use Rattle.std.specs.Prelude.{slice_index}
use Rattle.proj_cover.proofs.generators.has_pivot.Given as goal

abbrev pub invariant-loop-i : goal.invariant-loop-i
invariant-loop-i l = (i : ℕ) → i < l.i → slice_index l.pivots i ≢ l.c
