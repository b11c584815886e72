-- Tips among arrows.
use Rattle.std.specs.Prelude.{ℕ, ◌≡◌, ◌<◌, ◌≤◌, List, length, take, drop, Contains, All, AllPairs, ◌≢◌}
use Rattle.std.specs.Ordering.{ordering_then, nat_cmp}
use Rattle.std.specs.declared.cmp.Ordering.{Ordering}
use Rattle.std.specs.Cmp.Lexicographic.{slice_cmp}
use Rattle.quiver_paths.specs.Path.{IsPath, path_length}
use Rattle.quiver_paths.specs.Path.{IsFactor}
use Rattle.quiver_paths.specs.PathOrder.{IsSmaller}
use Rattle.quiver_paths.specs.Quiver.{HasEnds}
use Rattle.path_algebra.specs.declared.Term.{Term}
use Rattle.path_algebra.specs.declared.Header.{Header}
use Rattle.path_algebra.specs.declared.rules.Rule.{Rule}
use Rattle.path_algebra.specs.Reduction.{HasNoTip}

-- how arrows stand to others: fewer are smaller, as many are compared from the left
abbrev pub arrows_cmp : List ℕ → List ℕ → Ordering
arrows_cmp xs ys = ordering_then (nat_cmp (length xs) (length ys)) (slice_cmp nat_cmp xs ys)

-- the tips ascend
abbrev pub TipsAscend : List Rule → Type 0
TipsAscend rules = AllPairs (λ (a b : Rule). IsSmaller a.tip b.tip) rules

-- a tip has these arrows
pub record IsTipOf (rules : List Rule) (arrows : List ℕ) : Type 0 where
  pub rule : Rule
  pub listed : Contains rules rule
  pub same : rule.tip.arrows ≡ arrows

-- the arrows from some place on are those of a tip
pub record EndsInTip (rules : List Rule) (arrows : List ℕ) : Type 0 where
  pub place : ℕ
  pub inside : place < length arrows
  pub tip : IsTipOf rules (drop place arrows)

-- a front of the arrows ends in a tip
pub record HasTip (rules : List Rule) (arrows : List ℕ) : Type 0 where
  pub place : ℕ
  pub inside : place ≤ length arrows
  pub ends : EndsInTip rules (take place arrows)

-- the tips are paths of the quiver with two arrows or more
pub record AreLongTips (h : Header) (rules : List Rule) : Type 0 where
  pub ends : HasEnds h.quiver
  pub paths : All (λ (rule : Rule). IsPath h.quiver rule.tip) rules
  pub long : All (λ (rule : Rule). 2 ≤ path_length rule.tip) rules

-- no other tip is a factor of the rule's tip, and no tip is one of a path of its tail
pub record IsReducedAmong (h : Header) (rules : List Rule) (rule : Rule) : Type 0 where
  pub tip : (a : Rule) → Contains rules a → a.tip ≢ rule.tip → IsFactor h.quiver a.tip rule.tip → ⊥
  pub tail : All (λ (a : Term). HasNoTip h rules a.path) rule.tail.terms
