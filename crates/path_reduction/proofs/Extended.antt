-- What elements become by reduction: the sums of what their paths become, in a linear way.
use Rattle.std.proofs.Common.{ℕ, ◌≡◌, ◌<◌, ◌⊎◌, inl, inr, List, [], ◌∷◌, ◌&&◌, true, false, eqb, ltb, if◌then◌else◌, sym, ap, ap₂, ◌∙◌, subst}
use Rattle.std.specs.Prelude.{Contains, All}
use Rattle.std.proofs.lemmas.Bool.{cases_lt, cases_Bool, cond-true, cond-false, and_parts, eqb-true, lt-ltb, le-ltb}
use Rattle.std.proofs.lemmas.List.Elements.{All-weaker}
use Rattle.linear_algebra.specs.Field.{add, mul, order}
use Rattle.linear_algebra.specs.FieldLaws.{add_mul, mul_assoc, mul_zero, zero_mul, one_mul}
use Rattle.quiver_paths.specs.declared.Path.{Path}
use Rattle.quiver_paths.specs.Path.{IsPath, path_length, concat}
use Rattle.quiver_paths.specs.PathOrder.{IsSmaller}
use Rattle.quiver_paths.specs.PathList.{paths_below}
use Rattle.quiver_paths.proofs.ListLemmas.{Contains-head, Contains-behind}
use Rattle.quiver_paths.proofs.PathLemmas.{IsPath-concat}
use Rattle.quiver_paths.proofs.PathListLemmas.{lists_paths_below}
use Rattle.path_algebra.specs.declared.Term.{Term}
use Rattle.path_algebra.specs.declared.Header.{Header}
use Rattle.path_algebra.specs.declared.rules.Rule.{Rule}
use Rattle.path_algebra.specs.Elements.{sum_over, path_element, sum_of_terms, product_between}
use Rattle.path_algebra.specs.Allowed.{IsAllowed}
use Rattle.path_algebra.specs.Rules.{AreElementTerms}
use Rattle.path_algebra.specs.Reduction.{IsReduction, sum_between}
use Rattle.path_algebra.proofs.SumsOver.{sum_over-nil, sum_over-cons, sum_over-same, sum_over-zeros, sum_over-add, mul-sum_over, IsLinear, linear-same, linear-zero}
use Rattle.path_algebra.proofs.Acting.{sum_over-one}
use Rattle.path_algebra.proofs.ElementLemmas.{path_element-self, path_element-other, path_element-long}
use Rattle.path_algebra.proofs.Reducing.{AreRules, becomes_below}
use Rattle.path_algebra.proofs.Congruence.{product-between_terms}
use Rattle.path_reduction.specs.Gaps.{IsTidy, AreTidy, reduced_terms}
pub use Rattle.path_reduction.specs.Reducing.{extended}

-- what is known of tidy rules
pub tidy_rules : (h : Header) (rules : List Rule) → IsAllowed h → AreTidy h rules → AreRules h rules
tidy_rules h rules ok tidy = record {
  allowed = ok;
  tips = All-weaker (IsTidy h) (λ (r : Rule). IsPath h.quiver r.tip) (λ r t. t.path) rules tidy.each;
  tails = All-weaker (IsTidy h) (λ (r : Rule). AreElementTerms h r.tail.terms) (λ r t. t.tail) rules tidy.each;
  greater = All-weaker (IsTidy h) (λ (r : Rule). All (λ (a : Term). IsSmaller a.path r.tip) r.tail.terms) (λ r t. t.smaller) rules tidy.each;
}

pub extended-linear : (h : Header) (becomes : Path → Path → ℕ) → IsLinear h.field (extended h becomes)
unfolding extended
extended-linear h becomes = record {
  adds = λ x y r.
      sum_over-same h.field (paths_below h.quiver h.bound) _ _ (λ p m. add_mul h.field (x p) (y p) (becomes p r))
      ∙ sum_over-add h.field (paths_below h.quiver h.bound) _ _;
  scales = λ c x r.
      sum_over-same h.field (paths_below h.quiver h.bound) _ _ (λ p m. mul_assoc h.field c (x p) (becomes p r))
      ∙ sym (mul-sum_over h.field c (paths_below h.quiver h.bound) _);
}

-- the sum of what terms become, one after the other
pub reduced_terms-nil : (h : Header) (becomes : Path → Path → ℕ) (r : Path) → reduced_terms h becomes [] r ≡ 0
unfolding reduced_terms
reduced_terms-nil h becomes r = sum_over-nil {X = Term} h.field _

pub reduced_terms-cons : (h : Header) (becomes : Path → Path → ℕ) (a : Term) (terms : List Term) (r : Path)
    → reduced_terms h becomes (a ∷ terms) r ≡ add h.field (if ltb (path_length a.path) h.bound then mul h.field a.coef (becomes a.path r) else 0) (reduced_terms h becomes terms r)
unfolding reduced_terms
reduced_terms-cons h becomes a terms r = sum_over-cons h.field a terms _

module _ (h : Header) (rules : List Rule) (k : AreRules h rules) (becomes : Path → Path → ℕ) (red : IsReduction h rules becomes) where
  -- a path
  pub extended-path : (p : Path) → IsPath h.quiver p → (r : Path) → extended h becomes (path_element h.bound p) r ≡ becomes p r
  unfolding extended
  extended-path p hp r = elim (cases_lt (path_length p) h.bound) [
    | inr l ↦ sum_over-zeros h.field (paths_below h.quiver h.bound) _ (λ v m. ap (λ n. mul h.field n (becomes v r)) (path_element-long h.bound p v l) ∙ zero_mul h.field (becomes v r)) ∙ sym (red.long p hp l r)
    | inl l ↦
        let listed = lists_paths_below h.quiver k.allowed.quiver.ends h.bound in
        let below = becomes_below h rules k becomes red p hp r in
        let at : mul h.field (path_element h.bound p p) (becomes p r) ≡ becomes p r = ap (λ n. mul h.field n (becomes p r)) (path_element-self h.bound p l) ∙ one_mul h.field (becomes p r) below in
        sum_over-one h.field (paths_below h.quiver h.bound) _ p listed.ascending (listed.all p hp l) (subst (λ n. n < order h.field) (sym at) below)
        (λ v m d. ap (λ n. mul h.field n (becomes v r)) (path_element-other h.bound p v (λ e. d (sym e))) ∙ zero_mul h.field (becomes v r))
        ∙ at
  ]

  -- a sum of terms
  pub extended-terms : (terms : List Term) → ((a : Term) → Contains terms a → IsPath h.quiver a.path) → (r : Path)
      → extended h becomes (sum_of_terms h.field h.bound terms) r ≡ reduced_terms h becomes terms r
  unfolding sum_of_terms
  extended-terms [] m r = linear-zero h.field (extended h becomes) (extended-linear h becomes) r ∙ sym (reduced_terms-nil h becomes r)
  extended-terms (a ∷ terms) m r =
      (extended-linear h becomes).adds (λ p. mul h.field a.coef (path_element h.bound a.path p)) (sum_of_terms h.field h.bound terms) r
      ∙ ap₂ (add h.field)
      ((extended-linear h becomes).scales a.coef (path_element h.bound a.path) r
      ∙ ap (mul h.field a.coef) (extended-path a.path (m a (Contains-head a terms)) r)
      ∙ elim (cases_lt (path_length a.path) h.bound) [
        | inl l ↦ sym (cond-true _ _ 0 (lt-ltb _ _ l))
        | inr l ↦ ap (mul h.field a.coef) (red.long a.path (m a (Contains-head a terms)) l r) ∙ mul_zero h.field a.coef ∙ sym (cond-false _ _ 0 (le-ltb _ _ l))
      ])
      (extended-terms terms (λ b n. m b (Contains-behind a terms b n)) r)
      ∙ sym (reduced_terms-cons h becomes a terms r)

  -- a sum between two paths
  sum_between_extended : (u : Path) (terms : List Term) (v : Path) → IsPath h.quiver u → IsPath h.quiver v → ((a : Term) → Contains terms a → IsPath h.quiver a.path) → (r : Path)
      → extended h becomes (sum_between h (path_element h.bound) u terms v) r ≡ sum_between h becomes u terms v r
  unfolding sum_between sum_over
  sum_between_extended u [] v hu hv m r = linear-zero h.field (extended h becomes) (extended-linear h becomes) r
  sum_between_extended u (a ∷ terms) v hu hv m r =
      (extended-linear h becomes).adds (chosen (path_element h.bound)) (sum_between h (path_element h.bound) u terms v) r
      ∙ ap₂ (add h.field) (one (cases_Bool (eqb u.end a.path.start && eqb a.path.end v.start))) (sum_between_extended u terms v hu hv (λ b n. m b (Contains-behind a terms b n)) r)
    where
      chosen : (Path → Path → ℕ) → Path → ℕ
      chosen f s = if eqb u.end a.path.start && eqb a.path.end v.start then mul h.field a.coef (f (concat u (concat a.path v)) s) else 0

      one : ((eqb u.end a.path.start && eqb a.path.end v.start) ≡ true) ⊎ ((eqb u.end a.path.start && eqb a.path.end v.start) ≡ false)
          → extended h becomes (chosen (path_element h.bound)) r ≡ chosen becomes r
      one (inl e) =
          let parts = and_parts (eqb u.end a.path.start) (eqb a.path.end v.start) e in
          let ha = m a (Contains-head a terms) in
          let whole : IsPath h.quiver (concat u (concat a.path v)) =
          IsPath-concat h.quiver u (concat a.path v) hu (IsPath-concat h.quiver a.path v ha hv (eqb-true _ _ parts.1)) (eqb-true _ _ parts.0) in
          linear-same (extended h becomes) _ (λ s. mul h.field a.coef (path_element h.bound (concat u (concat a.path v)) s)) (λ s. cond-true _ _ 0 e) r
          ∙ (extended-linear h becomes).scales a.coef (path_element h.bound (concat u (concat a.path v))) r
          ∙ ap (mul h.field a.coef) (extended-path (concat u (concat a.path v)) whole r)
          ∙ sym (cond-true _ _ 0 e)
      one (inr e) = linear-same (extended h becomes) _ (λ s. 0) (λ s. cond-false _ _ 0 e) r ∙ linear-zero h.field (extended h becomes) (extended-linear h becomes) r ∙ sym (cond-false _ _ 0 e)

  pub extended-between : (u : Path) (terms : List Term) (v : Path) → IsPath h.quiver u → IsPath h.quiver v → ((a : Term) → Contains terms a → IsPath h.quiver a.path) → (r : Path)
      → extended h becomes (product_between h.bound u (sum_of_terms h.field h.bound terms) v) r ≡ sum_between h becomes u terms v r
  extended-between u terms v hu hv m r =
      linear-same (extended h becomes) _ _ (product-between_terms h u terms v) r ∙ sum_between_extended u terms v hu hv m r
