-- The first gap of rules: the least path that has one, and in it the occurrence that starts first.
use Rattle.std.specs.Prelude.{ℕ, ◌≡◌, ◌<◌, ◌≤◌, ◌+◌, ◌-◌, List, length, slice_index_or, Contains}
use Rattle.quiver_paths.specs.declared.Path.{Path}
use Rattle.quiver_paths.specs.Path.{IsPath, path_length}
use Rattle.quiver_paths.specs.PathOrder.{IsSmaller}
use Rattle.path_algebra.specs.declared.Term.{Term}
use Rattle.path_algebra.specs.declared.Header.{Header}
use Rattle.path_algebra.specs.declared.rules.Rule.{Rule}
use Rattle.path_algebra.specs.Elements.{sum_of_terms}
use Rattle.path_algebra.specs.Rules.{AreElementTerms}
use Rattle.path_algebra.specs.Derivations.{IsNumber}
use Rattle.path_algebra.specs.Reduction.{IsReduction, sum_between}
use Rattle.path_reduction.specs.declared.gaps.Gap.{Gap}
use Rattle.path_reduction.specs.Gaps.{Closes}
use Rattle.path_reduction.specs.Occurrences.{StandsAt, part_before, part_behind}

-- the rule's tip at this place in the path takes it to what the path becomes
abbrev pub ClosesAt : Header → (Path → Path → ℕ) → Rule → Path → ℕ → Type 0
ClosesAt h becomes rule p n = (r : Path) → sum_between h becomes (part_before p rule n) rule.tail.terms (part_behind p rule n) r ≡ becomes p r

-- The path of the gap has at most the bound's length, the rule with this number (counted from 1) has its tip behind so many arrows of it, and this
-- occurrence takes the path to something else than reduction does.
pub record IsGap (h : Header) (rules : List Rule) (becomes : Path → Path → ℕ) (gap : Gap) : Type 0 where
  pub path : IsPath h.quiver gap.path
  pub short : path_length gap.path ≤ h.bound
  pub numbered : IsNumber (length rules) gap.rule
  pub stands : (d : Rule) → StandsAt (slice_index_or rules (gap.rule - 1) d) gap.path.arrows gap.at
  pub differs : (d : Rule) → ClosesAt h becomes (slice_index_or rules (gap.rule - 1) d) gap.path gap.at → ⊥

-- in the path no occurrence of a tip that starts within its first n arrows is a gap
abbrev pub ClosesBefore : Header → List Rule → (Path → Path → ℕ) → Path → ℕ → Type 0
ClosesBefore h rules becomes p n = (rule : Rule) → Contains rules rule → (m : ℕ) → m < n → StandsAt rule p.arrows m → ClosesAt h becomes rule p m

-- no occurrence of a tip from one place to another is one
abbrev pub ClosesTo : Header → List Rule → Path → ℕ → ℕ → (Path → Path → ℕ) → Type 0
ClosesTo h rules p n end becomes = (rule : Rule) → Contains rules rule → StandsAt rule p.arrows n → n + path_length rule.tip ≡ end → ClosesAt h becomes rule p n

-- no occurrence is one
abbrev pub ClosesAll : Header → List Rule → (Path → Path → ℕ) → Path → Type 0
ClosesAll h rules becomes p = (rule : Rule) → Contains rules rule → Closes h becomes rule p

-- a gap in this path, and none that starts before it
pub record IsFirstGapIn (h : Header) (rules : List Rule) (becomes : Path → Path → ℕ) (p : Path) (gap : Gap) : Type 0 where
  pub same : gap.path ≡ p
  pub gap_is : IsGap h rules becomes gap
  pub first : ClosesBefore h rules becomes p gap.at

-- a gap, none in a smaller path, and none in its path that starts before it
pub record IsFirstGap (h : Header) (rules : List Rule) (becomes : Path → Path → ℕ) (gap : Gap) : Type 0 where
  pub gap_is : IsGap h rules becomes gap
  pub least : (p : Path) → IsPath h.quiver p → path_length p ≤ h.bound → IsSmaller p gap.path → ClosesAll h rules becomes p
  pub first : ClosesBefore h rules becomes gap.path gap.at

-- for each reduction by the rules
abbrev pub ForReductions : Header → List Rule → ((Path → Path → ℕ) → Type 0) → Type 0
ForReductions h rules P = (becomes : Path → Path → ℕ) → IsReduction h rules becomes → P becomes

-- the descending terms of what the path becomes
pub record IsBecome (h : Header) (rules : List Rule) (p : Path) (terms : List Term) : Type 0 where
  pub are : AreElementTerms h terms
  pub value : ForReductions h rules (λ becomes. (r : Path) → sum_of_terms h.field h.bound terms r ≡ becomes p r)

-- the tip of the rule at this place stands there in the path, and does not close for any reduction
pub record IsOpenAt (h : Header) (rules : List Rule) (p : Path) (n place : ℕ) : Type 0 where
  pub inside : place < length rules
  pub stands : (d : Rule) → StandsAt (slice_index_or rules place d) p.arrows n
  pub open_is : ForReductions h rules (λ becomes. (d : Rule) → ClosesAt h becomes (slice_index_or rules place d) p n → ⊥)
