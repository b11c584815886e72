-- The measure of a completion: how many short paths have no tip as a factor.
use Rattle.std.specs.Prelude.{ℕ, ◌==◌, ◌||◌, Bool, false, List, [], ◌∷◌, not, count_by}
use Rattle.std.specs.List.{list_any, starts_with}
use Rattle.quiver_paths.specs.declared.Path.{Path}
use Rattle.quiver_paths.specs.PathList.{paths_below}
use Rattle.path_algebra.specs.declared.Header.{Header}
use Rattle.path_algebra.specs.declared.rules.Rule.{Rule}

-- whether the run stands among the arrows, from one of them on
abbrev pub runs_in : List ℕ → List ℕ → Bool
runs_in run [] = false
runs_in run (a ∷ arrows) = starts_with ◌==◌ (a ∷ arrows) run || runs_in run arrows

-- whether the arrows of a tip stand among those of the path
abbrev pub has_tip_in : List Rule → Path → Bool
has_tip_in rules p = list_any (λ (rule : Rule). runs_in rule.tip.arrows p.arrows) rules

-- how many short paths have no tip as a factor
unfoldable pub free_count : Header → List Rule → ℕ
free_count h rules = count_by (λ (p : Path). not (has_tip_in rules p)) (paths_below h.quiver h.bound)
