-- Elements that steps derive.
use Rattle.std.specs.Prelude.{ℕ, ◌≡◌, ◌≢◌, ◌<◌, ◌++◌, List, length, All}
use Rattle.linear_algebra.specs.Field.{add, mul}
use Rattle.quiver_paths.specs.declared.Path.{Path}
use Rattle.quiver_paths.specs.Path.{IsPath, path_length, trivial_path}
use Rattle.path_algebra.specs.declared.Header.{Header}
use Rattle.path_algebra.specs.declared.rules.Step.{Step}
use Rattle.path_algebra.specs.declared.rules.Rule.{Rule}
use Rattle.path_algebra.specs.Allowed.{IsAllowed}
use Rattle.path_algebra.specs.Elements.{product_between}
use Rattle.path_algebra.specs.Rules.{rule_element}
use Rattle.path_algebra.specs.Derivations.{AreSteps, IsNumber, element_at, step_elements}
use Rattle.path_algebra.specs.BasisClauses.{HasFactor}
use Rattle.path_reduction.specs.Occurrences.{part_before, part_behind}

-- steps that name what stands before them, with factors from 1 to q − 1
pub record IsDerivation (h : Header) (steps : List Step) : Type 0 where
  pub are : AreSteps h steps
  pub factors : All (HasFactor h) steps

-- a derivation, of which the step with this number makes the element x
pub record Derives (h : Header) (steps : List Step) (number : ℕ) (x : Path → ℕ) : Type 0 where
  pub lawful : IsDerivation h steps
  pub number_is : IsNumber (length steps) number
  pub value : (p : Path) → element_at (step_elements h steps) number p ≡ x p

-- the new steps are the old ones and more behind them
pub record Lengthens (old new : List Step) : Type 0 where
  pub more : List Step
  pub whole : new ≡ old ++ more

-- each rule is made by its step
abbrev pub AreDerived : Header → List Step → List Rule → Type 0
AreDerived h steps rules = All (λ (rule : Rule). Derives h steps rule.step (rule_element h rule)) rules

-- a path times an element, and an element times a path
abbrev pub path_times : ℕ → Path → (Path → ℕ) → Path → ℕ
path_times t u x p = product_between t u x (trivial_path p.end) p

abbrev pub times_path : ℕ → (Path → ℕ) → Path → Path → ℕ
times_path t x v p = product_between t (trivial_path p.start) x v p

-- the element is zero but at paths shorter than t with these ends
pub record HasSupport (t : ℕ) (x : Path → ℕ) (start end : ℕ) : Type 0 where
  pub short : (p : Path) → x p ≢ 0 → path_length p < t
  pub starts : (p : Path) → x p ≢ 0 → p.start ≡ start
  pub ends : (p : Path) → x p ≢ 0 → p.end ≡ end

-- the new steps make what the old ones made, times a path with these arrows
abbrev pub MakesBehind : List ℕ → List Step → ℕ → List Step → ℕ → Type 0
MakesBehind arrows old number new result = (h : Header) (x : Path → ℕ) (s : ℕ) (v : Path) → IsAllowed h → IsPath h.quiver v → v.arrows ≡ arrows
    → HasSupport h.bound x s v.start → Derives h old number x → Derives h new result (times_path h.bound x v)

-- a path with these arrows times what they made
abbrev pub MakesBefore : List ℕ → List Step → ℕ → List Step → ℕ → Type 0
MakesBefore arrows old number new result = (h : Header) (x : Path → ℕ) (e : ℕ) (u : Path) → IsAllowed h → IsPath h.quiver u → u.arrows ≡ arrows
    → HasSupport h.bound x u.end e → Derives h old number x → Derives h new result (path_times h.bound u x)

-- the path's place in what the rule says: u·(tip − tail)·v, where the path is u·tip·v
abbrev pub rule_between : Header → Rule → Path → ℕ → Path → ℕ
rule_between h rule p n = product_between h.bound (part_before p rule n) (rule_element h rule) (part_behind p rule n)

-- an element plus a multiple of that
abbrev pub plus_rule : Header → (Path → ℕ) → ℕ → Rule → Path → ℕ → Path → ℕ
plus_rule h x c rule p n r = add h.field (x r) (mul h.field c (rule_between h rule p n r))
