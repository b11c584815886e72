use Rattle.std.proofs.Common.{ℕ, ◌<◌, ◌≤◌, ◌≡◌, ◌+◌}
use Rattle.std.specs.Prelude.{slice_index}
use Rattle.map_checks.proofs.sums.pass_part.Given as goal

abbrev pub invariant-loop-v : goal.invariant-loop-v
invariant-loop-v l = record {
  passed : (u : ℕ) → u < l.v → slice_index l.starts u ≡ slice_index l.initial.starts u + slice_index l.part u;
  left : (u : ℕ) → l.v ≤ u → slice_index l.starts u ≡ slice_index l.initial.starts u;
}
