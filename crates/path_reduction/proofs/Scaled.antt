-- An element divided by the coefficient of its greatest path.
use Rattle.std.proofs.Common.{ℕ, ◌≡◌, ◌≢◌, ◌<◌, ◌+◌, inl, inr, List, [], ◌∷◌, ◌++◌, map, length, get_or, refl, sym, ap, ap₂, ◌∙◌, subst, arith}
use Rattle.std.proofs.lemmas.Bool.{cases_eq}
use Rattle.std.proofs.lemmas.List.{get_or_default}
use Rattle.linear_algebra.specs.Field.{Gf, add, mul, neg, sub, inv, order}
use Rattle.linear_algebra.specs.FieldLaws.{mul_add, add_mul, mul_assoc, mul_zero, mul_below, one_mul, mul_one, neg_mul, add_left_comm, add_neg, add_zero, sub_def, sub_below, sub_eq_zero, mul_nonzero, mul_inv, inv_below, inv_nonzero, one-lt-order}
use Rattle.quiver_paths.specs.declared.Path.{Path}
use Rattle.quiver_paths.specs.PathOrder.{IsSmaller}
use Rattle.quiver_paths.proofs.ListLemmas.{Contains-from_map}
use Rattle.path_algebra.specs.declared.Term.{Term}
use Rattle.path_algebra.specs.declared.Header.{Header}
use Rattle.path_algebra.specs.declared.rules.Step.{Step}
use Rattle.path_algebra.specs.declared.rules.Step.TheVariants.{Add}
use Rattle.path_algebra.specs.Elements.{sum_of_terms, path_element}
use Rattle.path_algebra.specs.Rules.{AreElementTerms}
use Rattle.path_algebra.specs.ElementTerms.{AreTermsOf, plus_multiple}
use Rattle.path_algebra.proofs.ElementLemmas.{sum_of_terms-below}
use Rattle.path_algebra.proofs.TermLists.{sum_of_terms-nil, sum_of_terms-cons, AreElementTerms-nil, AreElementTerms-cons, AreElementTerms-head, AreElementTerms-tail, AreElementTerms-below, terms_from_element}
use Rattle.path_reduction.specs.Derived.{Derives}
use Rattle.path_reduction.specs.Scaling.{scaled, monic_terms}
use Rattle.path_reduction.proofs.Deriving.{derives_same, derives_push}

pub sum_scaled : (q : Gf) (t c : ℕ) (terms : List Term) (p : Path) → sum_of_terms q t (map (scaled q c) terms) p ≡ mul q c (sum_of_terms q t terms p)
sum_scaled q t c [] p = sum_of_terms-nil q t p ∙ sym (ap (mul q c) (sum_of_terms-nil q t p) ∙ mul_zero q c)
sum_scaled q t c (a ∷ terms) p =
    sum_of_terms-cons q t (scaled q c a) (map (scaled q c) terms) p
    ∙ ap₂ (add q) (mul_assoc q c a.coef (path_element t a.path p)) (sum_scaled q t c terms p)
    ∙ sym (mul_add q c (mul q a.coef (path_element t a.path p)) (sum_of_terms q t terms p))
    ∙ ap (mul q c) (sym (sum_of_terms-cons q t a terms p))

pub AreElementTerms-scaled : (h : Header) (c : ℕ) (terms : List Term) → c ≢ 0 → c < order h.field → AreElementTerms h terms → AreElementTerms h (map (scaled h.field c) terms)
AreElementTerms-scaled h c [] n l are = AreElementTerms-nil h
AreElementTerms-scaled h c (a ∷ terms) n l are =
    let is = AreElementTerms-head h a terms are in
    let some : a.coef ≢ 0 = λ e. (let k = is.nonzero in omega (arith, k, e)) in
    let product = mul_nonzero h.field c a.coef l n is.small some in
    AreElementTerms-cons h (scaled h.field c a) (map (scaled h.field c) terms)
    (record { nonzero = omega (arith, product); small = mul_below h.field c a.coef; short = is.short })
    (λ y m. let found = Contains-from_map (scaled h.field c) terms y m in subst (λ (z : Term). IsSmaller z.path a.path) found.2 (AreElementTerms-below h a terms are found.0 found.1))
    (AreElementTerms-scaled h c terms n l (AreElementTerms-tail h a terms are))

scaled_one : (h : Header) (terms : List Term) → AreElementTerms h terms → map (scaled h.field 1) terms ≡ terms
scaled_one h [] are = refl
scaled_one h (a ∷ terms) are =
    let coef = one_mul h.field a.coef (AreElementTerms-head h a terms are).small in
    let rest = scaled_one h terms (AreElementTerms-tail h a terms are) in
    λ i. record { coef = coef i; path = a.path } ∷ rest i

inv_one : (q : Gf) → inv q 1 ≡ 1
inv_one q = sym (one_mul q (inv q 1) (inv_below q 1)) ∙ mul_inv q 1 (one-lt-order q) (λ e. omega (arith, e))

-- an element whose greatest path has the coefficient 1 stays
pub monic_same : (h : Header) (terms : List Term) (x d : Term) → 0 < length terms → AreElementTerms h terms → x ≡ get_or terms 0 x → x.coef ≡ 1 → terms ≡ monic_terms h terms d
monic_same h terms x d l are is e =
    sym (ap (λ c. map (scaled h.field c) terms) (ap (inv h.field) (ap (λ (t : Term). t.coef) (get_or_default terms 0 d x l ∙ sym is) ∙ e) ∙ inv_one h.field) ∙ scaled_one h terms are)

-- the factor of what is added
pub monic_factor : (q : Gf) (c : ℕ) → 0 < c → c < order q → c ≢ 1 → (0 < sub q (inv q c) 1) × (sub q (inv q c) 1 < order q)
monic_factor q c l u n = (
  elim (cases_eq (sub q (inv q c) 1) 0) [
    | inr d ↦ omega (arith, d)
    | inl z ↦ absurd (n (sym (mul_one q c u) ∙ ap (mul q c) (sym (sub_eq_zero q (inv q c) 1 (inv_below q c) (one-lt-order q) z)) ∙ mul_inv q c u (λ e. omega (arith, e, l))))
  ],
  sub_below q (inv q c) 1,
)

plus_factor : (q : Gf) (i x : ℕ) → x < order q → add q x (mul q (sub q i 1) x) ≡ mul q i x
plus_factor q i x l =
    ap (add q x) (ap (λ c. mul q c x) (sub_def q i 1) ∙ add_mul q i (neg q 1) x ∙ ap (add q (mul q i x)) (neg_mul q 1 x ∙ ap (neg q) (one_mul q x l)))
    ∙ add_left_comm q x (mul q i x) (neg q x)
    ∙ ap (add q (mul q i x)) (add_neg q x)
    ∙ add_zero q (mul q i x) (mul_below q i x)

-- the terms of the sum
pub monic_from_sum : (h : Header) (terms first second sum : List Term) (x d : Term) (k : ℕ) → 0 < length terms → AreElementTerms h terms → x ≡ get_or terms 0 x → first ≡ terms → second ≡ terms
    → k ≡ sub h.field (inv h.field x.coef) 1 → AreTermsOf h (plus_multiple h.field (sum_of_terms h.field h.bound first) k (sum_of_terms h.field h.bound second)) sum → sum ≡ monic_terms h terms d
monic_from_sum h terms first second sum x d k l are is e f factor of =
    let c : ℕ = inv h.field x.coef in
    let head : (get_or terms 0 d).coef ≡ x.coef = ap (λ (t : Term). t.coef) (get_or_default terms 0 d x l ∙ sym is) in
    let place = are.nonzero 0 x l in
    let some : x.coef ≢ 0 = λ z. (let p : 0 < x.coef = subst (λ (t : Term). 0 < t.coef) (sym is) place in omega (arith, z, p)) in
    let small : x.coef < order h.field = subst (λ (t : Term). t.coef < order h.field) (sym is) (are.small 0 x l) in
    let whole : sum ≡ map (scaled h.field c) terms =
    terms_from_element h sum (map (scaled h.field c) terms) of.are (AreElementTerms-scaled h c terms (inv_nonzero h.field x.coef small some) (inv_below h.field x.coef) are)
    (λ p. of.value p
    ∙ ap₂ (λ u v. add h.field (sum_of_terms h.field h.bound u p) (mul h.field k (sum_of_terms h.field h.bound v p))) e f
    ∙ ap (λ z. add h.field (sum_of_terms h.field h.bound terms p) (mul h.field z (sum_of_terms h.field h.bound terms p))) factor
    ∙ plus_factor h.field c (sum_of_terms h.field h.bound terms p) (sum_of_terms-below h.field h.bound terms p)
    ∙ sym (sum_scaled h.field h.bound c terms p)) in
    whole ∙ ap (λ z. map (scaled h.field (inv h.field z)) terms) (sym head)

-- and their derivation
pub monic_makes : (h : Header) (terms first second sum : List Term) (k : ℕ) (old new : List Step) (number n : ℕ) → 0 < k → k < order h.field → first ≡ terms → second ≡ terms
    → AreTermsOf h (plus_multiple h.field (sum_of_terms h.field h.bound first) k (sum_of_terms h.field h.bound second)) sum
    → new ≡ old ++ Add number k number ∷ [] → n ≡ length old + 1
    → Derives h old number (sum_of_terms h.field h.bound terms) → Derives h new n (sum_of_terms h.field h.bound sum)
monic_makes h terms first second sum k old new number n l u e f of pushed count d =
    derives_same h new n _ (sum_of_terms h.field h.bound sum)
    (λ p. ap₂ (λ y z. add h.field y (mul h.field k z)) (d.value p) (d.value p)
    ∙ sym (of.value p ∙ ap₂ (λ y z. add h.field (sum_of_terms h.field h.bound y p) (mul h.field k (sum_of_terms h.field h.bound z p))) e f))
    (derives_push h old new (Add number k number) n pushed count d.lawful (d.number_is, d.number_is) (l, u))

-- the coefficient of the greatest path
pub first_nonzero : (h : Header) (terms : List Term) (x : Term) → 0 < length terms → AreElementTerms h terms → x ≡ get_or terms 0 x → 0 < x.coef
first_nonzero h terms x l are is = subst (λ (t : Term). 0 < t.coef) (sym is) (are.nonzero 0 x l)

pub first_small : (h : Header) (terms : List Term) (x : Term) → 0 < length terms → AreElementTerms h terms → x ≡ get_or terms 0 x → x.coef < order h.field
first_small h terms x l are is = subst (λ (t : Term). t.coef < order h.field) (sym is) (are.small 0 x l)
