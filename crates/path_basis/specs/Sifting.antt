-- Paths without a tip, sifted from a list.
use Rattle.std.specs.Prelude.{ℕ, ◌≡◌, ◌<◌, ◌≤◌, List, length, Contains, slice_index_or}
use Rattle.quiver_paths.specs.declared.Path.{Path}
use Rattle.quiver_paths.specs.PathOrder.{IsAscending}
use Rattle.path_algebra.specs.declared.rules.Rule.{Rule}
use Rattle.path_algebra.specs.Occurring.{HasTip}

-- the words are, in their order, those of the first paths, as many as `count` says, that have no tip among their arrows
pub record AreSifted (rules : List Rule) (paths : List Path) (count : ℕ) (words : List Path) : Type 0 where
  pub few : length words ≤ count
  pub ascending : IsAscending paths → IsAscending words
  pub all : (k : ℕ) (d : Path) → k < count → ¬ HasTip rules (slice_index_or paths k d).arrows → Contains words (slice_index_or paths k d)
  pub only : (p : Path) → Contains words p → (k : ℕ) × (k < count) × (slice_index_or paths k p ≡ p) × ¬ HasTip rules p.arrows
