use Rattle.std.proofs.Common.{ℕ, ◌-◌, ◌≡◌, ◌<◌, ◌≤◌, length, slice_index_or}
use Rattle.path_algebra.proofs.path_places.path_place.Given as goal

abbrev pub invariant-loop-low : goal.invariant-loop-low
invariant-loop-low l = record {
  within : l.high ≤ length l.paths;
  between : (k : ℕ) → k < length l.paths → slice_index_or l.paths k l.path ≡ l.path → (l.low ≤ k) × (k < l.high);
}

abbrev pub decreases-loop-low : goal.decreases-loop-low
decreases-loop-low l = l.high - l.low
