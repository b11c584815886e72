-- Where a tip stands among the arrows of a path.
use Rattle.std.specs.Prelude.{ℕ, ◌≡◌, ◌<◌, ◌≤◌, ◌+◌, List, length, take, drop, slice_index_or}
use Rattle.quiver_paths.specs.declared.Path.{Path}
use Rattle.quiver_paths.specs.Path.{path_length}
use Rattle.path_algebra.specs.declared.rules.Rule.{Rule}
use Rattle.path_algebra.specs.Occurring.{EndsInTip}

-- the arrows of the rule's tip stand behind so many of these
pub record StandsAt (rule : Rule) (arrows : List ℕ) (before : ℕ) : Type 0 where
  pub fits : before + path_length rule.tip ≤ length arrows
  pub same : rule.tip.arrows ≡ take (path_length rule.tip) (drop before arrows)

-- the tip at this place of the rules stands there, at the end of the arrows
pub record StandsAtEnd (rules : List Rule) (arrows : List ℕ) (place before : ℕ) : Type 0 where
  pub inside : place < length rules
  pub stands : (d : Rule) → StandsAt (slice_index_or rules place d) arrows before
  pub ends : (d : Rule) → before + path_length (slice_index_or rules place d).tip ≡ length arrows

-- it stands there, and no tip ends before it does
pub record EndsFirst (rules : List Rule) (arrows : List ℕ) (place before : ℕ) : Type 0 where
  pub inside : place < length rules
  pub stands : (d : Rule) → StandsAt (slice_index_or rules place d) arrows before
  pub first : (d : Rule) (k : ℕ) → k < before + path_length (slice_index_or rules place d).tip → EndsInTip rules (take k arrows) → ⊥

-- what stands before a tip in a path, and what stands behind it
abbrev pub part_before : Path → Rule → ℕ → Path
part_before p rule before = record { start = p.start; end = rule.tip.start; arrows = take before p.arrows }

abbrev pub part_behind : Path → Rule → ℕ → Path
part_behind p rule before = record { start = rule.tip.end; end = p.end; arrows = drop (before + path_length rule.tip) p.arrows }
