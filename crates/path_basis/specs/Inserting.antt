-- A new rule among tidy rules, in the place of those whose tips have its tip as a factor.
use Rattle.std.specs.Prelude.{ℕ, ◌≡◌, ◌<◌, ◌≤◌, ◌+◌, ◌++◌, ◌⊎◌, Bool, not, List, length, slice_index_or, Contains}
use Rattle.quiver_paths.specs.declared.Path.{Path}
use Rattle.quiver_paths.specs.Path.{IsFactor}
use Rattle.quiver_paths.specs.PathOrder.{IsSmaller}
use Rattle.path_algebra.specs.declared.Header.{Header}
use Rattle.path_algebra.specs.declared.rules.Rule.{Rule}
use Rattle.path_algebra.specs.Reduction.{HasNoTip}
use Rattle.path_reduction.specs.Gaps.{AreTidy}
use Rattle.path_basis.specs.Measure.{runs_in, free_count}

-- the tip of the new rule is a factor of the old one's
abbrev pub IsReplaced : Header → Rule → Rule → Type 0
IsReplaced h rule x = IsFactor h.quiver rule.tip x.tip

-- the test for that: whether these arrows are among those of the rule's tip
abbrev pub has_run : List ℕ → Rule → Bool
has_run arrows x = runs_in arrows x.tip.arrows

abbrev pub lacks_run : List ℕ → Rule → Bool
lacks_run arrows x = not (has_run arrows x)

-- the tips before this place are smaller than the path, and the one there is not
pub record IsPlaceOf (rules : List Rule) (p : Path) (place : ℕ) : Type 0 where
  pub inside : place ≤ length rules
  pub smaller : (k : ℕ) (d : Rule) → k < place → IsSmaller (slice_index_or rules k d).tip p
  pub next : (d : Rule) → place < length rules → IsSmaller (slice_index_or rules place d).tip p → ⊥

-- The new rules are the rule and the old ones that it does not replace; those that it replaces were taken out. More paths have a tip as a factor.
pub record IsInserted (h : Header) (old : List Rule) (rule : Rule) (new out : List Rule) : Type 0 where
  pub tidy : AreTidy h new
  pub listed : Contains new rule
  pub kept : (x : Rule) → Contains old x → (IsReplaced h rule x → ⊥) → Contains new x
  pub only : (x : Rule) → Contains new x → (x ≡ rule) ⊎ (Contains old x × (IsReplaced h rule x → ⊥))
  pub replaced : (x : Rule) → Contains old x → IsReplaced h rule x → Contains out x
  pub taken : (x : Rule) → Contains out x → Contains old x × IsReplaced h rule x
  pub count : length new + length out ≡ length old + 1
  pub covers : (p : Path) → HasNoTip h new p → HasNoTip h old p
  pub fewer : free_count h new < free_count h old

-- the same, what was taken out being put behind what was removed before
pub record Inserts (h : Header) (old : List Rule) (rule : Rule) (new before after : List Rule) : Type 0 where
  pub out : List Rule
  pub whole : after ≡ before ++ out
  pub inserted : IsInserted h old rule new out
