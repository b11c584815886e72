-- Rules of an ideal: a path, the tip, and the combination of smaller paths that it is congruent to. (Green's reduced Gröbner bases for path algebras.)
use Rattle.std.specs.Prelude.{ℕ, ◌≢◌, ◌<◌, List, map, Contains, All, AllPairs}
use Rattle.linear_algebra.specs.Field.{order, sub}
use Rattle.quiver_paths.specs.declared.Path.{Path}
use Rattle.quiver_paths.specs.Path.{IsFactor}
use Rattle.quiver_paths.specs.PathOrder.{IsSmaller}
use Rattle.path_algebra.specs.declared.Term.{Term}
use Rattle.path_algebra.specs.declared.Header.{Header}
use Rattle.path_algebra.specs.declared.rules.Rule.{Rule}
use Rattle.path_algebra.specs.Elements.{path_element, sum_of_terms}
use Rattle.path_algebra.specs.Ideals.{IsInIdeal}
use Rattle.path_algebra.specs.Words.{IsShortPath, IsTip, IsNormal}

-- different short paths, the greatest first, with coefficients from 1 to q − 1
pub record AreElementTerms (h : Header) (terms : List Term) : Type 0 where
  pub descending : AllPairs (λ (a b : Term). IsSmaller b.path a.path) terms
  pub nonzero : All (λ (a : Term). 0 < a.coef) terms
  pub small : All (λ (a : Term). a.coef < order h.field) terms
  pub short : All (λ (a : Term). IsShortPath h a.path) terms

-- what a rule says is zero: its tip less its tail
abbrev pub rule_element : Header → Rule → Path → ℕ
rule_element h rule p = sub h.field (path_element h.bound rule.tip p) (sum_of_terms h.field h.bound rule.tail.terms p)

-- a short path that is not normal and all of whose proper factors are normal
pub record IsMinimalTip (h : Header) (p : Path) : Type 0 where
  pub short : IsShortPath h p
  pub tip : IsTip h p
  pub factors : (f : Path) → IsFactor h.quiver f p → f ≢ p → IsNormal h f

-- the tip is minimal, and the tail is the combination of normal words that it is congruent to
pub record IsReducedRule (h : Header) (rule : Rule) : Type 0 where
  pub minimal : IsMinimalTip h rule.tip
  pub tail : AreElementTerms h rule.tail.terms
  pub normal : All (λ (a : Term). IsNormal h a.path) rule.tail.terms
  pub congruent : IsInIdeal h (rule_element h rule)

-- the reduced rules, by ascending tips: one for each minimal tip
pub record AreReducedRules (h : Header) (rules : List Rule) : Type 0 where
  pub ascending : AllPairs (λ (a b : Rule). IsSmaller a.tip b.tip) rules
  pub each : All (IsReducedRule h) rules
  pub all : (p : Path) → IsMinimalTip h p → Contains (map (λ (rule : Rule). rule.tip) rules) p
