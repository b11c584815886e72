-- The ideal is closed under sums and multiples, and its members are elements.
use Rattle.std.proofs.Common.{ℕ, ◌≡◌, ◌≢◌, ◌<◌, ◌≤◌, inl, inr, List, [], ◌∷◌, ◌++◌, map, All, refl, sym, ap, ap₂, ◌∙◌, subst}
use Rattle.std.specs.Prelude.{Contains}
use Rattle.std.proofs.lemmas.List.Elements.{All-nil, All-cons, All-head, All-tail, All-append, All-map, All-weaker, All-contains}
use Rattle.quiver_paths.proofs.PathLemmas.{IsPath-concat}
use Rattle.quiver_paths.proofs.ListLemmas.{Contains-head, Contains-behind, Contains-from_map}
use Rattle.std.proofs.lemmas.Bool.{cases_eq}
use Rattle.linear_algebra.specs.Field.{order, add, mul, neg, sub}
use Rattle.linear_algebra.specs.FieldLaws.{order-pos, add_below, mul_below, add_assoc, add_zero, zero_add, mul_zero, mul_add, add_zero_zero, mul_assoc, one_mul, sub_def, neg_mul}
use Rattle.quiver_paths.specs.declared.Path.{Path}
use Rattle.quiver_paths.specs.Path.{IsPath, path_length}
use Rattle.path_algebra.specs.declared.Term.{Term}
use Rattle.path_algebra.specs.declared.Relation.{Relation}
use Rattle.path_algebra.specs.declared.Header.{Header}
use Rattle.path_algebra.specs.Elements.{IsElement, path_element, sum_of_terms, middle, product_between}
use Rattle.path_algebra.specs.Ideals.{Summand, IsSummand, relation_element, summand_element, sum_of_summands, IsInIdeal}
use Rattle.path_algebra.specs.Words.{IsShortPath}
use Rattle.path_algebra.specs.Allowed.{IsAllowed, IsRelation, IsTerm}
use Rattle.path_algebra.proofs.Between.{composite, composite-middle, middle-start, middle-end}
use Rattle.path_algebra.proofs.ElementLemmas.{path_element_support, sum_of_terms-below, product_support, product-below}

pub sum_of_summands-below : (h : Header) (summands : List Summand) (p : Path) → sum_of_summands h summands p < order h.field
unfolding sum_of_summands
sum_of_summands-below h [] p = order-pos h.field
sum_of_summands-below h (s ∷ rest) p = add_below h.field _ _

pub sum_of_summands-append : (h : Header) (xs ys : List Summand) (p : Path)
    → sum_of_summands h (xs ++ ys) p ≡ add h.field (sum_of_summands h xs p) (sum_of_summands h ys p)
unfolding sum_of_summands
sum_of_summands-append h [] ys p = sym (zero_add h.field _ (sum_of_summands-below h ys p))
sum_of_summands-append h (x ∷ xs) ys p = ap (add h.field (summand_element h x p)) (sum_of_summands-append h xs ys p) ∙ sym (add_assoc h.field _ _ _)

-- a multiple of a summand
unfoldable pub scaled : Header → ℕ → Summand → Summand
scaled h c s = record s { coefficient = mul h.field c s.coefficient }

pub sum_of_summands-scaled : (h : Header) (c : ℕ) (xs : List Summand) (p : Path)
    → sum_of_summands h (map (scaled h c) xs) p ≡ mul h.field c (sum_of_summands h xs p)
unfolding sum_of_summands summand_element scaled
sum_of_summands-scaled h c [] p = sym (mul_zero h.field c)
sum_of_summands-scaled h c (x ∷ xs) p =
    ap₂ (add h.field) (mul_assoc h.field c x.coefficient _) (sum_of_summands-scaled h c xs p) ∙ sym (mul_add h.field c _ _)

All-scaled : (h : Header) (c : ℕ) (xs : List Summand) → All (IsSummand h) xs → All (IsSummand h) (map (scaled h c) xs)
unfolding scaled
All-scaled h c xs a = All-map (IsSummand h) (scaled h c) xs (All-weaker (IsSummand h) (λ s. IsSummand h (scaled h c s)) (λ s l. record { left = l.left; relation = l.relation; right = l.right }) xs a)

pub IsInIdeal-below : (h : Header) (x : Path → ℕ) → IsInIdeal h x → (p : Path) → x p < order h.field
IsInIdeal-below h x m p = rw (m.value p) (sum_of_summands-below h m.summands p)

pub IsInIdeal-same : (h : Header) (x y : Path → ℕ) → ((p : Path) → y p ≡ x p) → IsInIdeal h x → IsInIdeal h y
IsInIdeal-same h x y e m = record { summands = m.summands; lawful = m.lawful; value = λ p. e p ∙ m.value p }

pub IsInIdeal-zero : (h : Header) → IsInIdeal h (λ _. 0)
unfolding sum_of_summands
IsInIdeal-zero h = record { summands = []; lawful = All-nil (IsSummand h); value = λ p. refl }

pub IsInIdeal-add : (h : Header) (x y : Path → ℕ) → IsInIdeal h x → IsInIdeal h y → IsInIdeal h (λ p. add h.field (x p) (y p))
IsInIdeal-add h x y a b = record {
  summands = a.summands ++ b.summands;
  lawful = All-append (IsSummand h) a.summands b.summands a.lawful b.lawful;
  value = λ p. ap₂ (add h.field) (a.value p) (b.value p) ∙ sym (sum_of_summands-append h a.summands b.summands p);
}

pub IsInIdeal-mul : (h : Header) (c : ℕ) (x : Path → ℕ) → IsInIdeal h x → IsInIdeal h (λ p. mul h.field c (x p))
IsInIdeal-mul h c x a = record {
  summands = map (scaled h c) a.summands;
  lawful = All-scaled h c a.summands a.lawful;
  value = λ p. ap (mul h.field c) (a.value p) ∙ sym (sum_of_summands-scaled h c a.summands p);
}

pub IsInIdeal-sub : (h : Header) (x y : Path → ℕ) → IsInIdeal h x → IsInIdeal h y → IsInIdeal h (λ p. sub h.field (x p) (y p))
IsInIdeal-sub h x y a b = IsInIdeal-same h (λ p. add h.field (x p) (mul h.field (neg h.field 1) (y p))) (λ p. sub h.field (x p) (y p))
    (λ p. sub_def h.field (x p) (y p) ∙ ap (add h.field (x p)) (ap (neg h.field) (sym (one_mul h.field (y p) (IsInIdeal-below h y b p))) ∙ sym (neg_mul h.field 1 (y p))))
    (IsInIdeal-add h x (λ p. mul h.field (neg h.field 1) (y p)) a (IsInIdeal-mul h (neg h.field 1) y b))

-- a product u r v
pub IsInIdeal-product : (h : Header) (u v : Path) (r : Relation) → IsPath h.quiver u → Contains h.relations r → IsPath h.quiver v
    → IsInIdeal h (product_between h.bound u (relation_element h r) v)
unfolding sum_of_summands summand_element
IsInIdeal-product h u v r a b c = record {
  summands = record { coefficient = 1; left = u; relation = r; right = v } ∷ [];
  lawful = All-cons (IsSummand h) _ [] (record { left = a; relation = b; right = c }) (All-nil (IsSummand h));
  value = λ p. sym (add_zero h.field _ (mul_below h.field _ _) ∙ one_mul h.field _ (product-below h.field h.bound u (relation_element h r) v p (sum_of_terms-below h.field h.bound r.terms)));
}

-- members of the ideal are zero but at short paths of the quiver
pub terms_support : (h : Header) (terms : List Term) (p : Path) → All (IsTerm h) terms → sum_of_terms h.field h.bound terms p ≢ 0
    → Contains (map (λ (x : Term). x.path) terms) p
unfolding sum_of_terms
terms_support h [] p a n = absurd (n refl)
terms_support h (x ∷ terms) p a n = elim (cases_eq (path_element h.bound x.path p) 0) [
  | inl e ↦
      let rest : sum_of_terms h.field h.bound terms p ≢ 0 = λ z. n (ap₂ (add h.field) (ap (mul h.field x.coef) e ∙ mul_zero h.field _) z ∙ add_zero_zero h.field) in
      Contains-behind x.path (map (λ (y : Term). y.path) terms) p (terms_support h terms p (All-tail (IsTerm h) x terms a) rest)
  | inr d ↦ subst (Contains (x.path ∷ map (λ (y : Term). y.path) terms)) (path_element_support h.bound x.path p d).0 (Contains-head x.path (map (λ (y : Term). y.path) terms))
]

relation_of : (h : Header) → IsAllowed h → (r : Relation) → Contains h.relations r → IsRelation h r
relation_of h ok r c = All-contains (IsRelation h) h.relations r ok.relations c

-- a path at which a relation is not zero is one of its terms' paths
pub relation_support : (h : Header) → IsAllowed h → (r : Relation) → Contains h.relations r → (p : Path) → relation_element h r p ≢ 0
    → IsPath h.quiver p × (2 ≤ path_length p)
relation_support h ok r c p n =
    let lawful = (relation_of h ok r c).terms in
    let found = Contains-from_map (λ (x : Term). x.path) r.terms p (terms_support h r.terms p lawful n) in
    let term = All-contains (IsTerm h) r.terms found.0 lawful found.1 in
    (subst (IsPath h.quiver) found.2 term.path, subst (λ s. 2 ≤ path_length s) found.2 term.not_short)

-- a path at which u r v is not zero is a short path of the quiver
pub summand_support : (h : Header) → IsAllowed h → (s : Summand) → IsSummand h s → (p : Path) → summand_element h s p ≢ 0 → IsShortPath h p
unfolding summand_element
summand_support h ok s l p n =
    let there = product_support h.bound s.left (relation_element h s.relation) s.right p (λ e. n (ap (mul h.field s.coefficient) e ∙ mul_zero h.field _)) in
    let inside = (relation_support h ok s.relation l.relation (middle s.left s.right p) there.nonzero).0 in
    let whole : IsPath h.quiver (composite s.left (middle s.left s.right p) s.right) =
    IsPath-concat h.quiver s.left _ l.left (IsPath-concat h.quiver (middle s.left s.right p) s.right inside l.right (middle-end s.left s.right p)) (middle-start s.left s.right p) in
    record { path = subst (IsPath h.quiver) (composite-middle s.left s.right p there.between) whole; short = there.short }

pub sum_support : (h : Header) → IsAllowed h → (summands : List Summand) → All (IsSummand h) summands → (p : Path) → sum_of_summands h summands p ≢ 0 → IsShortPath h p
unfolding sum_of_summands
sum_support h ok [] l p n = absurd (n refl)
sum_support h ok (s ∷ rest) l p n = elim (cases_eq (summand_element h s p) 0) [
  | inl e ↦ sum_support h ok rest (All-tail (IsSummand h) s rest l) p (λ z. n (ap₂ (add h.field) e z ∙ add_zero_zero h.field))
  | inr d ↦ summand_support h ok s (All-head (IsSummand h) s rest l) p d
]

pub IsInIdeal_support : (h : Header) → IsAllowed h → (x : Path → ℕ) → IsInIdeal h x → (p : Path) → x p ≢ 0 → IsShortPath h p
IsInIdeal_support h ok x m p n = sum_support h ok m.summands m.lawful p (λ e. n (m.value p ∙ e))

pub IsInIdeal-element : (h : Header) → IsAllowed h → (x : Path → ℕ) → IsInIdeal h x → IsElement h.field h.quiver h.bound x
IsInIdeal-element h ok x m = record { small = IsInIdeal-below h x m; support = λ p n. let s = IsInIdeal_support h ok x m p n in (s.path, s.short) }
