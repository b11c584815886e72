-- Reduction of paths by rules, and the action of arrows on words by reduction. (Green.)
use Rattle.std.specs.Prelude.{ℕ, ◌≡◌, ◌≢◌, ◌≤◌, List, [], ◌∷◌, Contains, All, AllPairs, ◌&&◌, if◌then◌else◌, ◌==◌, nat_lt}
use Rattle.linear_algebra.specs.Field.{mul}
use Rattle.quiver_paths.specs.declared.Path.{Path}
use Rattle.quiver_paths.specs.Path.{IsPath, path_length, Meets, concat, arrow_path, IsFactor}
use Rattle.quiver_paths.specs.PathOrder.{IsSmaller}
use Rattle.quiver_paths.specs.Quiver.{source}
use Rattle.path_algebra.specs.declared.Term.{Term}
use Rattle.path_algebra.specs.declared.Header.{Header}
use Rattle.path_algebra.specs.declared.rules.Rule.{Rule}
use Rattle.path_algebra.specs.Elements.{sum_over, path_element}
use Rattle.path_algebra.specs.Allowed.{IsAllowed}
use Rattle.path_algebra.specs.Rules.{AreElementTerms}
use Rattle.path_algebra.specs.Words.{IsShortPath}

-- Rules that paths can be reduced by: each tip is a path of the quiver, each tail a combination of short paths that are smaller than its tip.
pub record AreRules (h : Header) (rules : List Rule) : Type 0 where
  pub allowed : IsAllowed h
  pub tips : All (λ (rule : Rule). IsPath h.quiver rule.tip) rules
  pub tails : All (λ (rule : Rule). AreElementTerms h rule.tail.terms) rules
  pub greater : All (λ (rule : Rule). All (λ (a : Term). IsSmaller a.path rule.tip) rule.tail.terms) rules

-- the tips ascend, and none is a factor of another
pub record TipsApart (h : Header) (rules : List Rule) : Type 0 where
  pub ascending : AllPairs (λ (a b : Rule). IsSmaller a.tip b.tip) rules
  pub apart : (a b : Rule) → Contains rules a → Contains rules b → a.tip ≢ b.tip → IsFactor h.quiver a.tip b.tip → ⊥

-- no tip is a factor of p
abbrev pub HasNoTip : Header → List Rule → Path → Type 0
HasNoTip h rules p = (rule : Rule) → Contains rules rule → IsFactor h.quiver rule.tip p → ⊥

-- the occurrence of a tip in p that ends first: p is `before`, the tip, `behind`
pub record FirstOccurrence (h : Header) (rules : List Rule) (p : Path) : Type 0 where
  pub rule : Rule
  pub before : Path
  pub behind : Path
  pub listed : Contains rules rule
  pub before_is : IsPath h.quiver before
  pub behind_is : IsPath h.quiver behind
  pub meets_before : Meets before rule.tip
  pub meets_behind : Meets rule.tip behind
  pub whole : p ≡ concat before (concat rule.tip behind)
  pub first : (other : Rule) → Contains rules other → (f : IsFactor h.quiver other.tip p) → path_length f.behind ≤ path_length behind

-- the sum of what becomes of the products u·m·v, m the paths of the terms, those that do not meet left out
unfoldable pub sum_between : Header → (Path → Path → ℕ) → Path → List Term → Path → Path → ℕ
sum_between h becomes u terms v r = sum_over h.field terms (λ term.
    if (u.end == term.path.start) && (term.path.end == v.start) then mul h.field term.coef (becomes (concat u (concat term.path v)) r) else 0)

-- What each path becomes by reduction: a path of the bound's length or more becomes zero; one in which no tip occurs stays; any other is
-- u·tip·v by the occurrence that ends first, and becomes what u·tail·v becomes.
pub record IsReduction (h : Header) (rules : List Rule) (becomes : Path → Path → ℕ) : Type 0 where
  pub long : (p : Path) → IsPath h.quiver p → h.bound ≤ path_length p → (r : Path) → becomes p r ≡ 0
  pub stays : (p : Path) → IsShortPath h p → HasNoTip h rules p → (r : Path) → becomes p r ≡ path_element h.bound p r
  pub rewritten : (p : Path) → IsShortPath h p → (o : FirstOccurrence h rules p) → (r : Path)
      → becomes p r ≡ sum_between h becomes o.before o.rule.tail.terms o.behind r

-- there is a reduction
pub record HasReduction (h : Header) (rules : List Rule) : Type 0 where
  pub becomes : Path → Path → ℕ
  pub is : IsReduction h rules becomes

-- The arrow acts on x: the sum of what the words with the arrow behind them become, with the coefficients that x has at the words. A word that
-- does not meet the arrow becomes zero.
unfoldable pub act_arrow : Header → (Path → Path → ℕ) → List Path → ℕ → (Path → ℕ) → Path → ℕ
act_arrow h becomes words a x r = sum_over h.field words (λ w.
    if w.end == source h.quiver a then mul h.field (x w) (becomes (concat w (arrow_path h.quiver a)) r) else 0)

-- arrows act one behind the other
unfoldable pub act_arrows : Header → (Path → Path → ℕ) → List Path → List ℕ → (Path → ℕ) → Path → ℕ
act_arrows h becomes words [] x = x
act_arrows h becomes words (a ∷ arrows) x = act_arrows h becomes words arrows (act_arrow h becomes words a x)

-- a sum of terms acts, those of the bound's length or more left out
unfoldable pub act_terms : Header → (Path → Path → ℕ) → List Path → List Term → (Path → ℕ) → Path → ℕ
act_terms h becomes words terms x r = sum_over h.field terms (λ term.
    if nat_lt (path_length term.path) h.bound then mul h.field term.coef (act_arrows h becomes words term.path.arrows x r) else 0)
