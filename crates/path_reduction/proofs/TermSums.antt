-- Coefficients of sums of descending terms, and paths of sums.
use Rattle.std.proofs.Common.{◌≡◌, ◌≢◌, ◌<◌, inl, inr, List, [], ◌∷◌, sym, ap, ◌∙◌, subst, arith}
use Rattle.std.specs.Prelude.{Contains}
use Rattle.std.proofs.lemmas.List.Elements.{All-contains}
use Rattle.linear_algebra.specs.Field.{add, mul}
use Rattle.linear_algebra.specs.FieldLaws.{mul_zero, zero_add}
use Rattle.quiver_paths.specs.PathOrder.{IsSmaller}
use Rattle.quiver_paths.proofs.ListLemmas.{Contains-cons_cases, Contains-nil}
use Rattle.quiver_paths.proofs.PathOrderLemmas.{IsSmaller-irreflexive}
use Rattle.path_algebra.specs.declared.Term.{Term}
use Rattle.path_algebra.specs.declared.Header.{Header}
use Rattle.path_algebra.specs.Elements.{sum_of_terms}
use Rattle.path_algebra.specs.Rules.{AreElementTerms}
use Rattle.path_algebra.proofs.ElementLemmas.{path_element-other, sum_of_terms-below}
use Rattle.path_algebra.proofs.TermLists.{sum_of_terms-cons, sum_of_terms-head, AreElementTerms-tail, AreElementTerms-below}

-- the coefficient at the path of a term
pub sum_at_term : (h : Header) (terms : List Term) → AreElementTerms h terms → (y : Term) → Contains terms y → sum_of_terms h.field h.bound terms y.path ≡ y.coef
sum_at_term h [] are y m = absurd (Contains-nil y m)
sum_at_term h (x ∷ xs) are y m = elim (Contains-cons_cases x xs y m) [
  | inl e ↦ ap (λ (z : Term). sum_of_terms h.field h.bound (x ∷ xs) z.path) (sym e) ∙ sum_of_terms-head h x xs are ∙ ap (λ (z : Term). z.coef) e
  | inr n ↦
      sum_of_terms-cons h.field h.bound x xs y.path
      ∙ ap (λ z. add h.field z (sum_of_terms h.field h.bound xs y.path))
      (ap (mul h.field x.coef) (path_element-other h.bound x.path y.path (λ e. IsSmaller-irreflexive y.path (subst (IsSmaller y.path) e (AreElementTerms-below h x xs are y n)))) ∙ mul_zero h.field x.coef)
      ∙ zero_add h.field _ (sum_of_terms-below h.field h.bound xs y.path)
      ∙ sum_at_term h xs (AreElementTerms-tail h x xs are) y n
]

-- a term's coefficient is not zero
pub term_nonzero : (h : Header) (terms : List Term) → AreElementTerms h terms → (y : Term) → Contains terms y → sum_of_terms h.field h.bound terms y.path ≢ 0
term_nonzero h terms are y m e = let n = All-contains (λ (a : Term). 0 < a.coef) terms y are.nonzero m in omega (arith, n, sym (sum_at_term h terms are y m) ∙ e)
