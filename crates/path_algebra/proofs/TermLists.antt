-- Descending lists of terms: their parts, and that the element tells the list.
use Rattle.std.proofs.Common.{ℕ, ◌≡◌, ◌<◌, inl, inr, List, [], ◌∷◌, ◌++◌, refl, sym, ap, ap₂, ◌∙◌, subst, arith}
use Rattle.std.specs.Prelude.{Contains}
use Rattle.std.proofs.lemmas.List.Elements.{All-nil, All-cons, All-head, All-tail, All-push, All-contains_itself, All-weaker}
use Rattle.linear_algebra.specs.Field.{Gf, order, add, mul}
use Rattle.linear_algebra.specs.FieldLaws.{add_zero, zero_add, mul_zero, mul_one}
use Rattle.quiver_paths.specs.declared.Path.{Path}
use Rattle.quiver_paths.specs.PathOrder.{IsSmaller}
use Rattle.quiver_paths.proofs.ListLemmas.{AllPairs-nil, AllPairs-front, AllPairs-head, AllPairs-tail, AllPairs-append, Contains-nil, Contains-cons_cases}
use Rattle.quiver_paths.proofs.PathOrderLemmas.{IsSmaller-irreflexive, IsSmaller-asymmetric, cases_path}
use Rattle.path_algebra.specs.declared.Term.{Term}
use Rattle.path_algebra.specs.declared.Header.{Header}
use Rattle.path_algebra.specs.Elements.{path_element, sum_of_terms}
use Rattle.path_algebra.specs.Words.{IsShortPath}
use Rattle.path_algebra.specs.Rules.{AreElementTerms}
use Rattle.path_algebra.specs.ElementTerms.{AreBelow}
use Rattle.path_algebra.proofs.ElementLemmas.{path_element-self, path_element-other, sum_of_terms-below}
use Rattle.path_algebra.proofs.ClausesSuffice.{sum_of_terms-outside, term_at}

pub sum_of_terms-nil : (q : Gf) (t : ℕ) (p : Path) → sum_of_terms q t [] p ≡ 0
unfolding sum_of_terms
sum_of_terms-nil q t p = refl

pub sum_of_terms-cons : (q : Gf) (t : ℕ) (x : Term) (xs : List Term) (p : Path) → sum_of_terms q t (x ∷ xs) p ≡ add q (mul q x.coef (path_element t x.path p)) (sum_of_terms q t xs p)
unfolding sum_of_terms
sum_of_terms-cons q t x xs p = refl

pub AreElementTerms-nil : (h : Header) → AreElementTerms h []
AreElementTerms-nil h = record {
  descending = AllPairs-nil (λ (a b : Term). IsSmaller b.path a.path);
  nonzero = All-nil (λ (a : Term). 0 < a.coef);
  small = All-nil (λ (a : Term). a.coef < order h.field);
  short = All-nil (λ (a : Term). IsShortPath h a.path);
}

-- a single term
pub record IsElementTerm (h : Header) (x : Term) : Type 0 where
  pub nonzero : 0 < x.coef
  pub small : x.coef < order h.field
  pub short : IsShortPath h x.path

pub AreElementTerms-cons : (h : Header) (x : Term) (xs : List Term) → IsElementTerm h x → AreBelow xs x.path → AreElementTerms h xs → AreElementTerms h (x ∷ xs)
AreElementTerms-cons h x xs is b are = record {
  descending = AllPairs-front (λ (a b : Term). IsSmaller b.path a.path) x xs b are.descending;
  nonzero = All-cons (λ (a : Term). 0 < a.coef) x xs is.nonzero are.nonzero;
  small = All-cons (λ (a : Term). a.coef < order h.field) x xs is.small are.small;
  short = All-cons (λ (a : Term). IsShortPath h a.path) x xs is.short are.short;
}

pub AreElementTerms-head : (h : Header) (x : Term) (xs : List Term) → AreElementTerms h (x ∷ xs) → IsElementTerm h x
AreElementTerms-head h x xs are = record {
  nonzero = All-head (λ (a : Term). 0 < a.coef) x xs are.nonzero;
  small = All-head (λ (a : Term). a.coef < order h.field) x xs are.small;
  short = All-head (λ (a : Term). IsShortPath h a.path) x xs are.short;
}

pub AreElementTerms-below : (h : Header) (x : Term) (xs : List Term) → AreElementTerms h (x ∷ xs) → AreBelow xs x.path
AreElementTerms-below h x xs are = AllPairs-head (λ (a b : Term). IsSmaller b.path a.path) x xs are.descending

pub AreElementTerms-tail : (h : Header) (x : Term) (xs : List Term) → AreElementTerms h (x ∷ xs) → AreElementTerms h xs
AreElementTerms-tail h x xs are = record {
  descending = AllPairs-tail (λ (a b : Term). IsSmaller b.path a.path) x xs are.descending;
  nonzero = All-tail (λ (a : Term). 0 < a.coef) x xs are.nonzero;
  small = All-tail (λ (a : Term). a.coef < order h.field) x xs are.small;
  short = All-tail (λ (a : Term). IsShortPath h a.path) x xs are.short;
}

pub Contains-one : {X : Type 0} (x y : X) → Contains (x ∷ []) y → x ≡ y
Contains-one x y m = elim (Contains-cons_cases x [] y m) [ inl e ↦ e | inr n ↦ absurd (Contains-nil y n) ]

pub AreElementTerms-push : (h : Header) (xs : List Term) (x : Term) → AreElementTerms h xs → IsElementTerm h x → ((a : Term) → Contains xs a → IsSmaller x.path a.path)
    → AreElementTerms h (xs ++ x ∷ [])
AreElementTerms-push h xs x are is b = record {
  descending = AllPairs-append (λ (a b : Term). IsSmaller b.path a.path) xs (x ∷ []) are.descending
      (AllPairs-front (λ (a b : Term). IsSmaller b.path a.path) x [] (λ y m. absurd (Contains-nil y m)) (AllPairs-nil (λ (a b : Term). IsSmaller b.path a.path)))
      (λ a y m n. subst (λ (z : Term). IsSmaller z.path a.path) (Contains-one x y n) (b a m));
  nonzero = All-push (λ (a : Term). 0 < a.coef) xs x are.nonzero is.nonzero;
  small = All-push (λ (a : Term). a.coef < order h.field) xs x are.small is.small;
  short = All-push (λ (a : Term). IsShortPath h a.path) xs x are.short is.short;
}

pub AreElementTerms-one : (h : Header) (x : Term) → IsElementTerm h x → AreElementTerms h (x ∷ [])
AreElementTerms-one h x is = AreElementTerms-cons h x [] is (λ y m. absurd (Contains-nil y m)) (AreElementTerms-nil h)

-- ---- the element tells the list

-- terms with smaller paths add nothing at a path
pub sum_of_terms-below_path : (q : Gf) (t : ℕ) (xs : List Term) (p : Path) → AreBelow xs p → sum_of_terms q t xs p ≡ 0
sum_of_terms-below_path q t xs p b = sum_of_terms-outside q t xs p
    (All-weaker (Contains xs) (λ (a : Term). a.path ≡ p → ⊥) (λ a m e. IsSmaller-irreflexive p (subst (λ x. IsSmaller x p) e (b a m))) xs (All-contains_itself xs))

-- the coefficient at the greatest path
pub sum_of_terms-head : (h : Header) (x : Term) (xs : List Term) → AreElementTerms h (x ∷ xs) → sum_of_terms h.field h.bound (x ∷ xs) x.path ≡ x.coef
sum_of_terms-head h x xs are =
    let is = AreElementTerms-head h x xs are in
    sum_of_terms-cons h.field h.bound x xs x.path
    ∙ ap₂ (add h.field) (ap (mul h.field x.coef) (path_element-self h.bound x.path is.short.short) ∙ mul_one h.field x.coef is.small)
    (sum_of_terms-below_path h.field h.bound xs x.path (AreElementTerms-below h x xs are))
    ∙ add_zero h.field x.coef is.small

-- elsewhere the first term adds nothing
sum_of_terms-behind : (h : Header) (x : Term) (xs : List Term) (p : Path) → (x.path ≡ p → ⊥) → sum_of_terms h.field h.bound (x ∷ xs) p ≡ sum_of_terms h.field h.bound xs p
sum_of_terms-behind h x xs p d =
    sum_of_terms-cons h.field h.bound x xs p
    ∙ ap (λ z. add h.field z (sum_of_terms h.field h.bound xs p)) (ap (mul h.field x.coef) (path_element-other h.bound x.path p d) ∙ mul_zero h.field x.coef)
    ∙ zero_add h.field _ (sum_of_terms-below h.field h.bound xs p)

-- the first path of one list is one of the other's
in_other : (h : Header) (x : Term) (xs ys : List Term) → AreElementTerms h (x ∷ xs) → ((p : Path) → sum_of_terms h.field h.bound (x ∷ xs) p ≡ sum_of_terms h.field h.bound ys p)
    → (a : Term) × Contains ys a × (a.path ≡ x.path)
in_other h x xs ys are e = term_at h.field h.bound ys x.path
    (λ z. let n = (AreElementTerms-head h x xs are).nonzero in absurd (omega (arith, n, sym (sum_of_terms-head h x xs are) ∙ e x.path ∙ z)))

same_first : (h : Header) (x y : Term) (xs ys : List Term) → AreElementTerms h (x ∷ xs) → AreElementTerms h (y ∷ ys)
    → ((p : Path) → sum_of_terms h.field h.bound (x ∷ xs) p ≡ sum_of_terms h.field h.bound (y ∷ ys) p) → x.path ≡ y.path
same_first h x y xs ys ax ay e =
    let a = in_other h x xs (y ∷ ys) ax e in
    let b = in_other h y ys (x ∷ xs) ay (λ p. sym (e p)) in
    elim (Contains-cons_cases y ys a.0 a.1) [
      | inl i ↦ sym a.2 ∙ ap (λ (z : Term). z.path) (sym i)
      | inr m ↦ elim (Contains-cons_cases x xs b.0 b.1) [
        | inl j ↦ ap (λ (z : Term). z.path) j ∙ b.2
        | inr n ↦ absurd (IsSmaller-asymmetric x.path y.path
            (subst (λ p. IsSmaller p y.path) a.2 (AreElementTerms-below h y ys ay a.0 m))
            (subst (λ p. IsSmaller p x.path) b.2 (AreElementTerms-below h x xs ax b.0 n)))
      ]
    ]

pub terms_from_element : (h : Header) (xs ys : List Term) → AreElementTerms h xs → AreElementTerms h ys
    → ((p : Path) → sum_of_terms h.field h.bound xs p ≡ sum_of_terms h.field h.bound ys p) → xs ≡ ys
terms_from_element h [] [] ax ay e = refl
terms_from_element h [] (y ∷ ys) ax ay e = absurd (let m = in_other h y ys [] ay (λ p. sym (e p)) in Contains-nil m.0 m.1)
terms_from_element h (x ∷ xs) [] ax ay e = absurd (let m = in_other h x xs [] ax e in Contains-nil m.0 m.1)
terms_from_element h (x ∷ xs) (y ∷ ys) ax ay e =
    let path : x.path ≡ y.path = same_first h x y xs ys ax ay e in
    let coef : x.coef ≡ y.coef =
    sym (sum_of_terms-head h x xs ax) ∙ e x.path ∙ ap (sum_of_terms h.field h.bound (y ∷ ys)) path ∙ sum_of_terms-head h y ys ay in
    let first : x ≡ y = λ i. record { coef = coef i; path = path i } in
    let rest : xs ≡ ys = terms_from_element h xs ys (AreElementTerms-tail h x xs ax) (AreElementTerms-tail h y ys ay) (λ p. elim (cases_path x.path p) [
      | inl s ↦ ap (sum_of_terms h.field h.bound xs) (sym s)
          ∙ sum_of_terms-below_path h.field h.bound xs x.path (AreElementTerms-below h x xs ax)
          ∙ sym (sum_of_terms-below_path h.field h.bound ys y.path (AreElementTerms-below h y ys ay))
          ∙ ap (sum_of_terms h.field h.bound ys) (sym path ∙ s)
      | inr d ↦ sym (sum_of_terms-behind h x xs p d) ∙ e p ∙ sum_of_terms-behind h y ys p (λ s. d (path ∙ s))
    ]) in
    λ i. first i ∷ rest i
