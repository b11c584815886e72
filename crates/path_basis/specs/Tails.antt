-- Rules with reduced tails.
use Rattle.std.specs.Prelude.{ℕ, ◌≡◌, ◌<◌, List, length, map, All, slice_index_or}
use Rattle.quiver_paths.specs.declared.Path.{Path}
use Rattle.path_algebra.specs.declared.Term.{Term}
use Rattle.path_algebra.specs.declared.Header.{Header}
use Rattle.path_algebra.specs.declared.rules.Rule.{Rule}
use Rattle.path_algebra.specs.Elements.{sum_of_terms}
use Rattle.path_algebra.specs.Rules.{AreElementTerms}
use Rattle.path_algebra.specs.Reduction.{HasNoTip}
use Rattle.path_reduction.specs.Gaps.{reduced_terms}
use Rattle.path_reduction.specs.FirstGaps.{ForReductions}

-- the new rule has the tip of the old one, and what the old one's tail becomes as its tail
pub record IsTailReduced (h : Header) (rules : List Rule) (old new : Rule) : Type 0 where
  pub tip : new.tip ≡ old.tip
  pub are : AreElementTerms h new.tail.terms
  pub no_tip : All (λ (a : Term). HasNoTip h rules a.path) new.tail.terms
  pub value : ForReductions h rules (λ becomes. (r : Path) → sum_of_terms h.field h.bound new.tail.terms r ≡ reduced_terms h becomes old.tail.terms r)

-- so are the first of the new rules to the first of the old ones, as many as `count` says
pub record AreTailsReduced (h : Header) (rules : List Rule) (count : ℕ) (new : List Rule) : Type 0 where
  pub length_is : length new ≡ count
  pub each : (k : ℕ) (d : Rule) → k < count → IsTailReduced h rules (slice_index_or rules k d) (slice_index_or new k d)

-- the tips are the same, in their order
abbrev pub HaveSameTips : List Rule → List Rule → Type 0
HaveSameTips old new = map (λ (x : Rule). x.tip) new ≡ map (λ (x : Rule). x.tip) old
