-- Gaps of rules: paths that an occurrence of a tip takes to something else than reduction does. (Green.)
use Rattle.std.specs.Prelude.{ℕ, ◌≡◌, ◌≢◌, ◌<◌, ◌≤◌, List, Contains, All, AllPairs, if◌then◌else◌, nat_lt}
use Rattle.linear_algebra.specs.Field.{mul}
use Rattle.quiver_paths.specs.declared.Path.{Path}
use Rattle.quiver_paths.specs.Path.{IsPath, path_length, IsFactor}
use Rattle.quiver_paths.specs.PathOrder.{IsSmaller}
use Rattle.path_algebra.specs.declared.Term.{Term}
use Rattle.path_algebra.specs.declared.Header.{Header}
use Rattle.path_algebra.specs.declared.rules.Rule.{Rule}
use Rattle.path_algebra.specs.Elements.{sum_over}
use Rattle.path_algebra.specs.Allowed.{IsParallel}
use Rattle.path_algebra.specs.Rules.{AreElementTerms}
use Rattle.path_algebra.specs.Reduction.{sum_between}

-- The tip is a path of the quiver with an arrow, shorter than the bound; the tail is a combination of smaller short paths that are parallel to it.
pub record IsTidy (h : Header) (rule : Rule) : Type 0 where
  pub path : IsPath h.quiver rule.tip
  pub not_trivial : 1 ≤ path_length rule.tip
  pub short : path_length rule.tip < h.bound
  pub tail : AreElementTerms h rule.tail.terms
  pub parallel : All (λ (a : Term). IsParallel a.path rule.tip) rule.tail.terms
  pub smaller : All (λ (a : Term). IsSmaller a.path rule.tip) rule.tail.terms

-- rules by ascending tips, none of which is a factor of another
pub record AreTidy (h : Header) (rules : List Rule) : Type 0 where
  pub each : All (IsTidy h) rules
  pub ascending : AllPairs (λ (a b : Rule). IsSmaller a.tip b.tip) rules
  pub apart : (a b : Rule) → Contains rules a → Contains rules b → a.tip ≢ b.tip → IsFactor h.quiver a.tip b.tip → ⊥

-- the occurrence of the rule's tip in p takes p to what p becomes by reduction
abbrev pub Closes : Header → (Path → Path → ℕ) → (rule : Rule) (p : Path) → Type 0
Closes h becomes rule p = (f : IsFactor h.quiver rule.tip p) → (r : Path) → sum_between h becomes f.before rule.tail.terms f.behind r ≡ becomes p r

-- each occurrence of a tip in a path of the bound's length or less does
abbrev pub HasNoGap : Header → List Rule → (Path → Path → ℕ) → Type 0
HasNoGap h rules becomes = (p : Path) → IsPath h.quiver p → path_length p ≤ h.bound → (rule : Rule) → Contains rules rule → Closes h becomes rule p

-- what a sum of terms becomes, those of the bound's length or more left out
unfoldable pub reduced_terms : Header → (Path → Path → ℕ) → List Term → Path → ℕ
reduced_terms h becomes terms r = sum_over h.field terms (λ (a : Term). if nat_lt (path_length a.path) h.bound then mul h.field a.coef (becomes a.path r) else 0)
