-- Which elements of a derivation are kept: each up to the last step that names it. Steps have places, counted from 0, and numbers, counted from 1.
use Rattle.std.specs.Prelude.{ℕ, ⊤, ◌≡◌, ◌<◌, ◌≤◌, ◌-◌, List, length, slice_index_or, All}
use Rattle.quiver_paths.specs.declared.Path.{Path}
use Rattle.path_algebra.specs.declared.Header.{Header}
use Rattle.path_algebra.specs.declared.rules.Element.{Element}
use Rattle.path_algebra.specs.declared.rules.Rule.{Rule}
use Rattle.path_algebra.specs.declared.rules.Step.{Step}
use Rattle.path_algebra.specs.declared.rules.Step.TheVariants.{Relation, Left, Right, Add}
use Rattle.path_algebra.specs.Rules.{AreElementTerms}
use Rattle.path_algebra.specs.Derivations.{IsNumber, element_at}
use Rattle.path_algebra.specs.ElementTerms.{AreTermsOf}

-- this holds of the number of each step that the step names
abbrev pub AllNamed : (ℕ → Type 0) → Step → Type 0
AllNamed P (Relation r) = ⊤
AllNamed P (Left a j) = P j
AllNamed P (Right j a) = P j
AllNamed P (Add j c m) = P j × P m

-- the place of the last use of the step with this number
abbrev pub last_use : List ℕ → ℕ → ℕ
last_use lasts number = slice_index_or lasts (number - 1) 0

-- what the step names is used at this place or later
abbrev pub KeepsNamed : List ℕ → ℕ → Step → Type 0
KeepsNamed lasts place = AllNamed (λ n. place ≤ last_use lasts n)

-- as many, and none earlier
pub record AreLater (before after : List ℕ) : Type 0 where
  pub count : length after ≡ length before
  pub later : (n : ℕ) → last_use before n ≤ last_use after n

-- the last use of each step is no earlier than a step that names it, and behind all steps where a rule names it
pub record AreLastUses (steps : List Step) (rules : List Rule) (lasts : List ℕ) : Type 0 where
  pub count : length lasts ≡ length steps
  pub named : (k : ℕ) (s : Step) → k < length steps → KeepsNamed lasts k (slice_index_or steps k s)
  pub derived : All (λ (rule : Rule). length steps ≤ last_use lasts rule.step) rules

-- the element kept at this number is that of the list
abbrev pub IsElementAt : Header → List (Path → ℕ) → List Element → ℕ → Type 0
IsElementAt h xs elements number = (e : Element) → AreTermsOf h (element_at xs number) (slice_index_or elements (number - 1) e).terms

-- Of the first elements of the list those are kept whose last use is still to come.
pub record AreInUse (h : Header) (xs : List (Path → ℕ)) (lasts : List ℕ) (elements : List Element) : Type 0 where
  pub terms : All (λ (e : Element). AreElementTerms h e.terms) elements
  pub each : (number : ℕ) → IsNumber (length elements) number → length elements ≤ last_use lasts number → IsElementAt h xs elements number
