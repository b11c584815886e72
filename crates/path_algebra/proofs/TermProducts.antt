-- The terms of a path times an element, and of an element times a path.
use Rattle.std.proofs.Common.{ℕ, ◌≡◌, ◌<◌, ◌+◌, inl, inr, List, [], ◌∷◌, ◌&&◌, eqb, ltb, refl, sym, ap, ap₂, ◌∙◌, subst}
use Rattle.std.specs.Prelude.{Contains, if◌then◌else◌}
use Rattle.std.specs.List.{filter}
use mathlib.Core.Path.{fun_ext}
use mathlib.Core.Bool.{Bool}
use Rattle.std.proofs.lemmas.Bool.{cases_Bool, cases_eq, cases_lt, and_parts, and_from, and_left, and_right, cond-true, cond-false, eqb-true, eq-eqb, ne_eqb, ltb-true, lt-ltb, le-ltb}
use Rattle.std.proofs.lemmas.List.Elements.{All-map, All-filter, All-weaker, All-contains_itself, All-contains}
use Rattle.linear_algebra.specs.Field.{Gf, order, add, mul}
use Rattle.linear_algebra.specs.FieldLaws.{mul_zero, zero_add}
use Rattle.quiver_paths.specs.declared.Path.{Path}
use Rattle.quiver_paths.specs.Path.{IsPath, path_length, concat, trivial_path}
use Rattle.quiver_paths.specs.PathOrder.{IsSmaller}
use Rattle.quiver_paths.proofs.ListLemmas.{AllPairs-map, AllPairs-sieve, AllPairs-members, Contains-from_filter}
use Rattle.quiver_paths.proofs.PathLemmas.{IsPath-concat, path_length-concat, concat-trivial_left, concat-trivial_right}
use Rattle.quiver_paths.proofs.PathOrderLemmas.{IsSmaller-concat_left, IsSmaller-concat_right}
use Rattle.path_algebra.specs.declared.Term.{Term}
use Rattle.path_algebra.specs.declared.Header.{Header}
use Rattle.path_algebra.specs.Elements.{path_element, sum_of_terms, product_between}
use Rattle.path_algebra.specs.Words.{IsShortPath}
use Rattle.path_algebra.specs.Rules.{AreElementTerms}
use Rattle.path_algebra.specs.ElementTerms.{term_behind, term_before, goes_behind, goes_before, terms_behind, terms_before, AreTermsOf}
use Rattle.path_algebra.proofs.ElementLemmas.{path_element-other, path_element-long, sum_of_terms-below, product-add}
use Rattle.path_algebra.proofs.IdealProducts.{product-nothing}
use Rattle.path_algebra.proofs.Congruence.{product-one}

-- ---- the value of one term

-- c times the path r where it is shorter than t
short_or_zero : (q : Gf) (t c : ℕ) (r p : Path) (b : Bool) → b ≡ ltb (path_length r) t → (if b then mul q c (path_element t r p) else 0) ≡ mul q c (path_element t r p)
short_or_zero q t c r p b e = elim (cases_lt (path_length r) t) [
  | inl l ↦ cond-true b _ 0 (e ∙ lt-ltb _ _ l)
  | inr l ↦ cond-false b _ 0 (e ∙ le-ltb _ _ l) ∙ sym (ap (mul q c) (path_element-long t r p l) ∙ mul_zero q c)
]

one_behind : (q : Gf) (t : ℕ) (u : Path) (a : Term) (p : Path) → product_between t u (λ r. mul q a.coef (path_element t a.path r)) (trivial_path p.end) p
    ≡ (if goes_behind t u a then mul q a.coef (path_element t (concat u a.path) p) else 0)
one_behind q t u a p = product-one q t u (trivial_path p.end) a p ∙ elim (cases_eq u.end a.path.start) [
  | inr d ↦ cond-false _ _ 0 (and_left (eqb u.end a.path.start) (eqb a.path.end p.end) (ne_eqb _ _ d)) ∙ sym (cond-false (goes_behind t u a) _ 0 (and_left (eqb u.end a.path.start) _ (ne_eqb _ _ d)))
  | inl e ↦ elim (cases_eq a.path.end p.end) [
    | inl f ↦
        cond-true _ _ 0 (and_from _ _ (eq-eqb _ _ e) (eq-eqb _ _ f))
        ∙ ap (λ r. mul q a.coef (path_element t r p)) (ap (concat u) (ap (λ v. concat a.path (trivial_path v)) (sym f) ∙ concat-trivial_right a.path))
        ∙ sym (goes e)
    | inr d ↦
        cond-false _ _ 0 (and_right (eqb u.end a.path.start) (eqb a.path.end p.end) (ne_eqb _ _ d))
        ∙ sym (goes e ∙ ap (mul q a.coef) (path_element-other t (concat u a.path) p (λ s. d (ap (λ (x : Path). x.end) s))) ∙ mul_zero q a.coef)
  ]
]
  where
    goes : u.end ≡ a.path.start → (if goes_behind t u a then mul q a.coef (path_element t (concat u a.path) p) else 0) ≡ mul q a.coef (path_element t (concat u a.path) p)
    goes e = short_or_zero q t a.coef (concat u a.path) p (goes_behind t u a)
        (ap (λ b. b && ltb (path_length u + path_length a.path) t) (eq-eqb _ _ e) ∙ ap (λ n. ltb n t) (sym (path_length-concat u a.path)))

one_before : (q : Gf) (t : ℕ) (u : Path) (a : Term) (p : Path) → product_between t (trivial_path p.start) (λ r. mul q a.coef (path_element t a.path r)) u p
    ≡ (if goes_before t u a then mul q a.coef (path_element t (concat a.path u) p) else 0)
one_before q t u a p = product-one q t (trivial_path p.start) u a p ∙ elim (cases_eq a.path.end u.start) [
  | inr d ↦ cond-false _ _ 0 (and_right (eqb p.start a.path.start) (eqb a.path.end u.start) (ne_eqb _ _ d)) ∙ sym (cond-false (goes_before t u a) _ 0 (and_left (eqb a.path.end u.start) _ (ne_eqb _ _ d)))
  | inl e ↦ elim (cases_eq p.start a.path.start) [
    | inl f ↦
        cond-true _ _ 0 (and_from _ _ (eq-eqb _ _ f) (eq-eqb _ _ e))
        ∙ ap (λ r. mul q a.coef (path_element t r p)) (ap (λ v. concat (trivial_path v) (concat a.path u)) f ∙ concat-trivial_left (concat a.path u))
        ∙ sym (goes e)
    | inr d ↦
        cond-false _ _ 0 (and_left (eqb p.start a.path.start) (eqb a.path.end u.start) (ne_eqb _ _ d))
        ∙ sym (goes e ∙ ap (mul q a.coef) (path_element-other t (concat a.path u) p (λ s. d (sym (ap (λ (x : Path). x.start) s)))) ∙ mul_zero q a.coef)
  ]
]
  where
    goes : a.path.end ≡ u.start → (if goes_before t u a then mul q a.coef (path_element t (concat a.path u) p) else 0) ≡ mul q a.coef (path_element t (concat a.path u) p)
    goes e = short_or_zero q t a.coef (concat a.path u) p (goes_before t u a)
        (ap (λ b. b && ltb (path_length a.path + path_length u) t) (eq-eqb _ _ e) ∙ ap (λ n. ltb n t) (sym (path_length-concat a.path u)))

-- ---- their sum

pub terms_behind_sum : (q : Gf) (t : ℕ) (u : Path) (terms : List Term) (p : Path) → sum_of_terms q t (terms_behind t u terms) p ≡ product_between t u (sum_of_terms q t terms) (trivial_path p.end) p
unfolding sum_of_terms
terms_behind_sum q t u [] p = sym (product-nothing t u (trivial_path p.end) p)
terms_behind_sum q t u (a ∷ terms) p =
    first
    ∙ ap₂ (add q) (sym (one_behind q t u a p)) (terms_behind_sum q t u terms p)
    ∙ sym (product-add q t u (λ r. mul q a.coef (path_element t a.path r)) (sum_of_terms q t terms) (trivial_path p.end) p)
  where
    first : sum_of_terms q t (terms_behind t u (a ∷ terms)) p ≡ add q (if goes_behind t u a then mul q a.coef (path_element t (concat u a.path) p) else 0) (sum_of_terms q t (terms_behind t u terms) p)
    first = elim (cases_Bool (goes_behind t u a)) [
      | inl e ↦ rw e refl
      | inr e ↦ rw e (sym (zero_add q _ (sum_of_terms-below q t (terms_behind t u terms) p)))
    ]

pub terms_before_sum : (q : Gf) (t : ℕ) (u : Path) (terms : List Term) (p : Path) → sum_of_terms q t (terms_before t u terms) p ≡ product_between t (trivial_path p.start) (sum_of_terms q t terms) u p
unfolding sum_of_terms
terms_before_sum q t u [] p = sym (product-nothing t (trivial_path p.start) u p)
terms_before_sum q t u (a ∷ terms) p =
    first
    ∙ ap₂ (add q) (sym (one_before q t u a p)) (terms_before_sum q t u terms p)
    ∙ sym (product-add q t (trivial_path p.start) (λ r. mul q a.coef (path_element t a.path r)) (sum_of_terms q t terms) u p)
  where
    first : sum_of_terms q t (terms_before t u (a ∷ terms)) p ≡ add q (if goes_before t u a then mul q a.coef (path_element t (concat a.path u) p) else 0) (sum_of_terms q t (terms_before t u terms) p)
    first = elim (cases_Bool (goes_before t u a)) [
      | inl e ↦ rw e refl
      | inr e ↦ rw e (sym (zero_add q _ (sum_of_terms-below q t (terms_before t u terms) p)))
    ]

-- ---- they are terms of an element

pub kept_behind : (t : ℕ) (u : Path) (terms : List Term) (a : Term) → Contains (filter (goes_behind t u) terms) a → (u.end ≡ a.path.start) × (path_length (concat u a.path) < t)
kept_behind t u terms a m =
    let parts = and_parts (eqb u.end a.path.start) (ltb (path_length u + path_length a.path) t) (Contains-from_filter (goes_behind t u) terms a m).1 in
    (eqb-true _ _ parts.0, subst (λ n. n < t) (sym (path_length-concat u a.path)) (ltb-true _ _ parts.1))

pub kept_before : (t : ℕ) (u : Path) (terms : List Term) (a : Term) → Contains (filter (goes_before t u) terms) a → (a.path.end ≡ u.start) × (path_length (concat a.path u) < t)
kept_before t u terms a m =
    let parts = and_parts (eqb a.path.end u.start) (ltb (path_length a.path + path_length u) t) (Contains-from_filter (goes_before t u) terms a m).1 in
    (eqb-true _ _ parts.0, subst (λ n. n < t) (sym (path_length-concat a.path u)) (ltb-true _ _ parts.1))

pub AreElementTerms-behind : (h : Header) (u : Path) (terms : List Term) → IsPath h.quiver u → AreElementTerms h terms → AreElementTerms h (terms_behind h.bound u terms)
AreElementTerms-behind h u terms hu are = record {
  descending = AllPairs-map (λ (a b : Term). IsSmaller b.path a.path) (term_behind u) (filter (goes_behind h.bound u) terms)
      (AllPairs-members (λ (a b : Term). IsSmaller b.path a.path) (λ (a b : Term). IsSmaller (concat u b.path) (concat u a.path)) (filter (goes_behind h.bound u) terms)
      (λ a b m n s. IsSmaller-concat_left u b.path a.path (kept_behind h.bound u terms b n).0 (kept_behind h.bound u terms a m).0 s)
      (AllPairs-sieve (λ (a b : Term). IsSmaller b.path a.path) (goes_behind h.bound u) terms are.descending));
  nonzero = All-map (λ (a : Term). 0 < a.coef) (term_behind u) _ (All-filter (goes_behind h.bound u) (λ (a : Term). 0 < a.coef) terms are.nonzero);
  small = All-map (λ (a : Term). a.coef < order h.field) (term_behind u) _ (All-filter (goes_behind h.bound u) (λ (a : Term). a.coef < order h.field) terms are.small);
  short = All-map (λ (a : Term). IsShortPath h a.path) (term_behind u) (filter (goes_behind h.bound u) terms)
      (All-weaker (Contains (filter (goes_behind h.bound u) terms)) (λ (a : Term). IsShortPath h (concat u a.path)) (λ a m. record {
        path = IsPath-concat h.quiver u a.path hu (All-contains (λ (x : Term). IsShortPath h x.path) terms a are.short (Contains-from_filter (goes_behind h.bound u) terms a m).0).path (kept_behind h.bound u terms a m).0;
        short = (kept_behind h.bound u terms a m).1;
      }) (filter (goes_behind h.bound u) terms) (All-contains_itself (filter (goes_behind h.bound u) terms)));
}

pub AreElementTerms-before : (h : Header) (u : Path) (terms : List Term) → IsPath h.quiver u → AreElementTerms h terms → AreElementTerms h (terms_before h.bound u terms)
AreElementTerms-before h u terms hu are = record {
  descending = AllPairs-map (λ (a b : Term). IsSmaller b.path a.path) (term_before u) (filter (goes_before h.bound u) terms)
      (AllPairs-members (λ (a b : Term). IsSmaller b.path a.path) (λ (a b : Term). IsSmaller (concat b.path u) (concat a.path u)) (filter (goes_before h.bound u) terms)
      (λ a b m n s. IsSmaller-concat_right b.path a.path u s)
      (AllPairs-sieve (λ (a b : Term). IsSmaller b.path a.path) (goes_before h.bound u) terms are.descending));
  nonzero = All-map (λ (a : Term). 0 < a.coef) (term_before u) _ (All-filter (goes_before h.bound u) (λ (a : Term). 0 < a.coef) terms are.nonzero);
  small = All-map (λ (a : Term). a.coef < order h.field) (term_before u) _ (All-filter (goes_before h.bound u) (λ (a : Term). a.coef < order h.field) terms are.small);
  short = All-map (λ (a : Term). IsShortPath h a.path) (term_before u) (filter (goes_before h.bound u) terms)
      (All-weaker (Contains (filter (goes_before h.bound u) terms)) (λ (a : Term). IsShortPath h (concat a.path u)) (λ a m. record {
        path = IsPath-concat h.quiver a.path u (All-contains (λ (x : Term). IsShortPath h x.path) terms a are.short (Contains-from_filter (goes_before h.bound u) terms a m).0).path hu (kept_before h.bound u terms a m).0;
        short = (kept_before h.bound u terms a m).1;
      }) (filter (goes_before h.bound u) terms) (All-contains_itself (filter (goes_before h.bound u) terms)));
}

pub AreTermsOf-behind : (h : Header) (u : Path) (x : Path → ℕ) (terms : List Term) → IsPath h.quiver u → AreTermsOf h x terms
    → AreTermsOf h (λ p. product_between h.bound u x (trivial_path p.end) p) (terms_behind h.bound u terms)
AreTermsOf-behind h u x terms hu of = record {
  are = AreElementTerms-behind h u terms hu of.are;
  value = λ p. terms_behind_sum h.field h.bound u terms p ∙ ap (λ y. product_between h.bound u y (trivial_path p.end) p) (fun_ext of.value);
}

pub AreTermsOf-before : (h : Header) (u : Path) (x : Path → ℕ) (terms : List Term) → IsPath h.quiver u → AreTermsOf h x terms
    → AreTermsOf h (λ p. product_between h.bound (trivial_path p.start) x u p) (terms_before h.bound u terms)
AreTermsOf-before h u x terms hu of = record {
  are = AreElementTerms-before h u terms hu of.are;
  value = λ p. terms_before_sum h.field h.bound u terms p ∙ ap (λ y. product_between h.bound (trivial_path p.start) y u p) (fun_ext of.value);
}
