-- Rules on their way to the reduced rules of an ideal. (Green's completion of overlaps.)
use Rattle.std.specs.Prelude.{◌≡◌, ◌<◌, ◌≤◌, ◌+◌, ◌*◌, ◌^◌, List, length, Contains, All}
use Rattle.quiver_paths.specs.declared.Path.{Path}
use Rattle.quiver_paths.specs.Path.{IsPath, path_length}
use Rattle.path_algebra.specs.declared.Relation.{Relation}
use Rattle.path_algebra.specs.declared.Header.{Header}
use Rattle.path_algebra.specs.declared.rules.Rule.{Rule}
use Rattle.path_algebra.specs.declared.rules.Step.{Step}
use Rattle.path_basis.specs.declared.obstructions.Obstruction.{Obstruction}
use Rattle.path_reduction.specs.Gaps.{IsTidy, AreTidy, HasNoGap, reduced_terms}
use Rattle.path_reduction.specs.Derived.{IsDerivation, Derives, AreDerived}
use Rattle.path_algebra.specs.Rules.{rule_element}
use Rattle.path_basis.specs.declared.completion.Open.{Open}
use Rattle.path_basis.specs.declared.completion.Open.TheVariants.{Removed}
use Rattle.path_basis.specs.declared.completion.Open.TheVariants as variant
use Rattle.path_reduction.specs.FirstGaps.{ForReductions}
use Rattle.path_basis.specs.Measure.{free_count}

-- a path of at most the bound's length, and a number of its arrows
pub record IsObstruction (h : Header) (o : Obstruction) : Type 0 where
  pub path : IsPath h.quiver o.path
  pub short : path_length o.path ≤ h.bound
  pub inside : o.end ≤ path_length o.path

-- a rule that the steps derive, or an obstruction
abbrev pub IsOpen : Header → List Step → Open → Type 0
IsOpen h steps (Removed rule) = IsTidy h rule × Derives h steps rule.step (rule_element h rule)
IsOpen h steps (variant.Obstruction o) = IsObstruction h o

-- The steps derive the rules, which are tidy, and those that were removed. A new rule takes one of the paths without a tip and some steps; the
-- steps that are there leave room for as many as there are such paths.
pub record IsCompletion (h : Header) (rules removed : List Rule) (steps : List Step) : Type 0 where
  pub tidy : AreTidy h rules
  pub lawful : IsDerivation h steps
  pub derived : AreDerived h steps rules
  pub removed_tidy : All (IsTidy h) removed
  pub removed_derived : AreDerived h steps removed
  pub room : length steps + 131136 * free_count h rules ≤ 2 ^ 31 + 131136 * 4097

-- there is a rule more, and fewer paths are without a tip
pub record HasGrown (h : Header) (old old_removed new new_removed : List Rule) : Type 0 where
  pub fewer : free_count h new < free_count h old
  pub count : length new + length new_removed ≡ length old + length old_removed + 1

-- the rules, those removed and the obstructions are as they were
pub record IsSame (old old_removed : List Rule) (old_obstructions : List Obstruction) (new new_removed : List Rule) (new_obstructions : List Obstruction) : Type 0 where
  pub rules : new ≡ old
  pub removed : new_removed ≡ old_removed
  pub obstructions : new_obstructions ≡ old_obstructions

-- the relation without its terms of the bound's length or more reduces to zero
abbrev pub RelationReduces : Header → List Rule → Relation → Type 0
RelationReduces h rules relation = ForReductions h rules (λ becomes. (r : Path) → reduced_terms h becomes relation.terms r ≡ 0)

-- each relation does
abbrev pub RelationsReduce : Header → List Rule → Type 0
RelationsReduce h rules = (relation : Relation) → Contains h.relations relation → RelationReduces h rules relation

-- and the rules have no gap
pub record IsClosed (h : Header) (rules : List Rule) : Type 0 where
  pub relations : RelationsReduce h rules
  pub no_gap : ForReductions h rules (HasNoGap h rules)
