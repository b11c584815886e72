use Rattle.std.proofs.Common.{ℕ, ◌-◌, ◌≡◌, ◌<◌, ◌≤◌, length, get_or}
use Rattle.quiver_paths.specs.declared.Path.{Path}
use Rattle.alg_table.proofs.words.is_word.Given as goal

abbrev pub invariant-loop-low : goal.invariant-loop-low
invariant-loop-low l = record {
  within : l.high ≤ length l.words;
  between : (k : ℕ) (d : Path) → k < length l.words → (get_or l.words k d).start ≡ l.start → (get_or l.words k d).arrows ≡ l.arrows → (l.low ≤ k) × (k < l.high);
}

abbrev pub decreases-loop-low : goal.decreases-loop-low
decreases-loop-low l = l.high - l.low
