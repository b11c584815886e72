-- Elements kept as descending lists of terms, and how they are added.
use Rattle.std.specs.Prelude.{ℕ, ◌≡◌, ◌≢◌, ◌<◌, ◌+◌, ◌++◌, List, [], ◌∷◌, map, Contains, ◌&&◌, ◌==◌, nat_lt, Bool}
use Rattle.std.specs.List.{filter}
use Rattle.linear_algebra.specs.Field.{Gf, add, mul, neg}
use Rattle.quiver_paths.specs.declared.Path.{Path}
use Rattle.quiver_paths.specs.Path.{path_length, concat}
use Rattle.quiver_paths.specs.PathOrder.{IsSmaller}
use Rattle.path_algebra.specs.declared.Term.{Term}
use Rattle.path_algebra.specs.declared.Header.{Header}
use Rattle.path_algebra.specs.declared.rules.Rule.{Rule}
use Rattle.path_algebra.specs.Elements.{sum_of_terms}
use Rattle.path_algebra.specs.Rules.{AreElementTerms}

-- the descending terms of the element x
pub record AreTermsOf (h : Header) (x : Path → ℕ) (terms : List Term) : Type 0 where
  pub are : AreElementTerms h terms
  pub value : (p : Path) → sum_of_terms h.field h.bound terms p ≡ x p

-- x plus c times y
abbrev pub plus_multiple : Gf → (Path → ℕ) → ℕ → (Path → ℕ) → Path → ℕ
plus_multiple q x c y p = add q (x p) (mul q c (y p))

-- each of the terms has a smaller path
abbrev pub AreBelow : List Term → Path → Type 0
AreBelow terms p = (y : Term) → Contains terms y → IsSmaller y.path p

-- The total is being written as one list: what is done, and then the terms that are left on one side and c times those on the other, all of
-- them smaller.
pub record IsMerging (h : Header) (c : ℕ) (total : Path → ℕ) (done first second : List Term) : Type 0 where
  pub done_are : AreElementTerms h done
  pub first_are : AreElementTerms h first
  pub second_are : AreElementTerms h second
  pub first_below : (x : Term) → Contains done x → AreBelow first x.path
  pub second_below : (x : Term) → Contains done x → AreBelow second x.path
  pub value : (p : Path) → add h.field (sum_of_terms h.field h.bound done p)
      (add h.field (sum_of_terms h.field h.bound first p) (mul h.field c (sum_of_terms h.field h.bound second p))) ≡ total p

-- a path before a term, and behind it
abbrev pub term_behind : Path → Term → Term
term_behind u term = record { coef = term.coef; path = concat u term.path }

abbrev pub term_before : Path → Term → Term
term_before u term = record { coef = term.coef; path = concat term.path u }

-- the term meets the path, and is shorter than t with it
abbrev pub goes_behind : ℕ → Path → Term → Bool
goes_behind t u term = (u.end == term.path.start) && nat_lt (path_length u + path_length term.path) t

abbrev pub goes_before : ℕ → Path → Term → Bool
goes_before t u term = (term.path.end == u.start) && nat_lt (path_length term.path + path_length u) t

-- the terms of a path times an element, and of an element times a path
abbrev pub terms_behind : ℕ → Path → List Term → List Term
terms_behind t u terms = map (term_behind u) (filter (goes_behind t u) terms)

abbrev pub terms_before : ℕ → Path → List Term → List Term
terms_before t u terms = map (term_before u) (filter (goes_before t u) terms)

-- the negative of a term, and the terms of the tip less the tail
abbrev pub negative : Gf → Term → Term
negative q term = record { coef = neg q term.coef; path = term.path }

abbrev pub rule_terms : Header → Rule → List Term
rule_terms h rule = record { coef = 1; path = rule.tip } ∷ map (negative h.field) rule.tail.terms

-- what was written of x + c·y, x and y having one path: nothing where that is zero
pub record IsJoined (q : Gf) (c : ℕ) (x y : Term) (before after : List Term) : Type 0 where
  pub zero_is : add q x.coef (mul q c y.coef) ≡ 0 → after ≡ before
  pub nonzero_is : add q x.coef (mul q c y.coef) ≢ 0 → after ≡ before ++ record { coef = add q x.coef (mul q c y.coef); path = x.path } ∷ []

-- the rule's tip is shorter than the bound, and these are the terms of its tip less its tail
pub record IsRuleOf (h : Header) (rule : Rule) (terms : List Term) : Type 0 where
  pub short : path_length rule.tip < h.bound
  pub same : terms ≡ rule_terms h rule
