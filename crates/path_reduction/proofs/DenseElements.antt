-- Elements by their coefficients at the paths of a list: what a change of one coefficient does, and the terms of them.
use Rattle.std.proofs.Common.{ℕ, zero, suc, ◌≡◌, ◌≢◌, ◌<◌, ◌≤◌, ◌+◌, ◌-◌, inl, inr, List, [], ◌∷◌, ◌++◌, length, drop, set, get_or, replicate, refl, sym, ap, ap₂, ◌∙◌, subst, arith}
use Rattle.std.specs.Prelude.{Contains}
use Rattle.std.proofs.lemmas.Bool.{cases_eq, cases_lt}
use Rattle.std.proofs.lemmas.List.{get_or_default, get_or-set_same, get_or-set_other, length-set, drop_more, get_or-map, get_or_past}
use Rattle.std.proofs.lemmas.List.Elements.{Contains-append_cases}
use Rattle.linear_algebra.specs.Field.{Gf, order, add, mul}
use Rattle.linear_algebra.specs.FieldLaws.{add_assoc, add_comm, add_left_comm, add_mul, zero_mul, zero_add, add_zero, add_zero_zero, mul_below, order-pos}
use Rattle.linear_algebra.specs.Rows.{IsRow}
use Rattle.quiver_paths.specs.declared.Path.{Path}
use Rattle.quiver_paths.specs.PathOrder.{IsSmaller}
use Rattle.quiver_paths.specs.PathList.{ListsPathsBelow}
use Rattle.quiver_paths.proofs.ListLemmas.{Contains-nil}
use Rattle.path_algebra.specs.declared.Term.{Term}
use Rattle.path_algebra.specs.declared.Header.{Header}
use Rattle.path_algebra.specs.Elements.{path_element, sum_of_terms, combination}
use Rattle.path_algebra.specs.Rows.{path_at}
use Rattle.path_algebra.specs.Rules.{AreElementTerms}
use Rattle.path_algebra.specs.ElementTerms.{AreTermsOf}
use Rattle.path_algebra.proofs.ElementLemmas.{combination-below, sum_of_terms-append}
use Rattle.path_algebra.proofs.Combinations.{coefficients_from_combination}
use Rattle.path_algebra.proofs.TermLists.{AreElementTerms-nil, AreElementTerms-push, Contains-one, sum_of_terms-nil, sum_of_terms-cons}
use Rattle.path_reduction.specs.Reducing.{row_element, AreZeros, IsLastPlace}
use Rattle.path_reduction.proofs.PathPlaces.{path_at-is, listed_path, listed_short}

-- ---- rows

pub row_small : (q : Gf) (n k v : ℕ) (row : List ℕ) → IsRow q n row → v < order q → IsRow q n (set row k v)
row_small q n k v row r s = record {
  count = length-set row k v ∙ r.count;
  small = λ j. elim (cases_eq j k) [
    | inr d ↦ subst (λ x. x < order q) (sym (get_or-set_other row k j v 0 d)) (r.small j)
    | inl e ↦ elim (cases_lt k (length row)) [
      | inl l ↦ subst (λ x. x < order q) (sym (ap (λ i. get_or (set row k v) i 0) e ∙ get_or-set_same row k v 0 l)) s
      | inr l ↦ subst (λ x. x < order q) (sym (get_or_past (set row k v) j 0 (omega (arith, l, e, length-set row k v)))) (order-pos q)
    ]
  ];
}

-- ---- the element of a row

combination-nothing : (q : Gf) (t n : ℕ) (ps : List Path) (r : Path) → combination q t (replicate n 0) ps r ≡ 0
unfolding combination
combination-nothing q t zero ps r = refl
combination-nothing q t (suc n) [] r = refl
combination-nothing q t (suc n) (p ∷ ps) r = ap₂ (add q) (zero_mul q (path_element t p r)) (combination-nothing q t n ps r) ∙ add_zero_zero q

-- one coefficient more
combination-cons : (q : Gf) (t c : ℕ) (cs : List ℕ) (p : Path) (ps : List Path) (r : Path) → combination q t (c ∷ cs) (p ∷ ps) r ≡ add q (mul q c (path_element t p r)) (combination q t cs ps r)
unfolding combination
combination-cons q t c cs p ps r = refl

-- a coefficient is grown
combination-grown : (q : Gf) (t : ℕ) (cs : List ℕ) (ps : List Path) (k c : ℕ) (d r : Path) → k < length cs → k < length ps
    → combination q t (set cs k (add q (get_or cs k 0) c)) ps r ≡ add q (combination q t cs ps r) (mul q c (path_element t (get_or ps k d) r))
combination-grown q t [] ps k c d r l m = absurd (omega arith)
combination-grown q t (a ∷ cs) [] k c d r l m = absurd (omega arith)
combination-grown q t (a ∷ cs) (p ∷ ps) zero c d r l m =
    combination-cons q t (add q a c) cs p ps r
    ∙ ap (λ z. add q z (combination q t cs ps r)) (add_mul q a c (path_element t p r))
    ∙ add_assoc q (mul q a (path_element t p r)) (mul q c (path_element t p r)) (combination q t cs ps r)
    ∙ ap (add q (mul q a (path_element t p r))) (add_comm q (mul q c (path_element t p r)) (combination q t cs ps r))
    ∙ sym (add_assoc q (mul q a (path_element t p r)) (combination q t cs ps r) (mul q c (path_element t p r)))
    ∙ ap (λ z. add q z (mul q c (path_element t p r))) (sym (combination-cons q t a cs p ps r))
combination-grown q t (a ∷ cs) (p ∷ ps) (suc k) c d r l m =
    combination-cons q t a (set cs k (add q (get_or cs k 0) c)) p ps r
    ∙ ap (add q (mul q a (path_element t p r))) (combination-grown q t cs ps k c d r (omega arith) (omega arith))
    ∙ sym (add_assoc q (mul q a (path_element t p r)) (combination q t cs ps r) (mul q c (path_element t (get_or ps k d) r)))
    ∙ ap (λ z. add q z (mul q c (path_element t (get_or ps k d) r))) (sym (combination-cons q t a cs p ps r))

-- a coefficient is taken out
combination-cleared : (q : Gf) (t : ℕ) (cs : List ℕ) (ps : List Path) (k : ℕ) (d r : Path) → k < length cs → k < length ps
    → combination q t cs ps r ≡ add q (mul q (get_or cs k 0) (path_element t (get_or ps k d) r)) (combination q t (set cs k 0) ps r)
combination-cleared q t [] ps k d r l m = absurd (omega arith)
combination-cleared q t (a ∷ cs) [] k d r l m = absurd (omega arith)
combination-cleared q t (a ∷ cs) (p ∷ ps) zero d r l m =
    combination-cons q t a cs p ps r
    ∙ ap (add q (mul q a (path_element t p r)))
    (sym (combination-cons q t 0 cs p ps r ∙ ap (λ z. add q z (combination q t cs ps r)) (zero_mul q (path_element t p r)) ∙ zero_add q (combination q t cs ps r) (combination-below q t cs ps r)))
combination-cleared q t (a ∷ cs) (p ∷ ps) (suc k) d r l m =
    combination-cons q t a cs p ps r
    ∙ ap (add q (mul q a (path_element t p r))) (combination-cleared q t cs ps k d r (omega arith) (omega arith))
    ∙ add_left_comm q (mul q a (path_element t p r)) (mul q (get_or cs k 0) (path_element t (get_or ps k d) r)) (combination q t (set cs k 0) ps r)
    ∙ ap (add q (mul q (get_or cs k 0) (path_element t (get_or ps k d) r))) (sym (combination-cons q t a (set cs k 0) p ps r))

pub element_nothing : (h : Header) (paths : List Path) (n : ℕ) (row : List ℕ) (r : Path) → row ≡ replicate n 0 → row_element h paths row r ≡ 0
element_nothing h paths n row r e = ap (λ cs. row_element h paths cs r) e ∙ combination-nothing h.field h.bound n paths r

pub element_grown : (h : Header) (paths : List Path) (row : List ℕ) (k c : ℕ) (r : Path) → IsRow h.field (length paths) row → k < length paths
    → row_element h paths (set row k (add h.field (get_or row k 0) c)) r ≡ add h.field (row_element h paths row r) (mul h.field c (path_element h.bound (path_at paths k) r))
element_grown h paths row k c r is l =
    combination-grown h.field h.bound row paths k c r r (omega (arith, l, is.count)) l
    ∙ ap (λ p. add h.field (row_element h paths row r) (mul h.field c (path_element h.bound p r))) (sym (path_at-is paths k r l))

pub element_cleared : (h : Header) (paths : List Path) (row : List ℕ) (k : ℕ) (r : Path) → IsRow h.field (length paths) row → k < length paths
    → row_element h paths row r ≡ add h.field (mul h.field (get_or row k 0) (path_element h.bound (path_at paths k) r)) (row_element h paths (set row k 0) r)
element_cleared h paths row k r is l =
    combination-cleared h.field h.bound row paths k r r (omega (arith, l, is.count)) l
    ∙ ap (λ p. add h.field (mul h.field (get_or row k 0) (path_element h.bound p r)) (row_element h paths (set row k 0) r)) (sym (path_at-is paths k r l))

-- the coefficient at a place
pub element_at : (h : Header) (paths : List Path) (row : List ℕ) (k : ℕ) → ListsPathsBelow h.quiver h.bound paths → IsRow h.field (length paths) row → k < length paths
    → row_element h paths row (path_at paths k) ≡ get_or row k 0
element_at h paths row k lists is l =
    ap (row_element h paths row) (path_at-is paths k (path_at paths k) l)
    ∙ sym (get_or-map (row_element h paths row) paths k (path_at paths k) 0 l)
    ∙ ap (λ cs. get_or cs k 0) (coefficients_from_combination h.field h.bound paths row (record { ascending = lists.ascending; short = λ p m. (lists.only p m).1 }) is.count
    (λ j d b. subst (λ x. x < order h.field) (get_or_default row j 0 d b) (is.small j)))

-- ---- the terms, from the greatest path on

-- the terms of the paths from a place on
pub record IsGathered (h : Header) (paths : List Path) (row : List ℕ) (place : ℕ) (terms : List Term) : Type 0 where
  pub are : AreElementTerms h terms
  pub above : (i : ℕ) → i < place → (y : Term) → Contains terms y → IsSmaller (path_at paths i) y.path
  pub value : (r : Path) → sum_of_terms h.field h.bound terms r ≡ row_element h (drop place paths) (drop place row) r

pub gather_begins : (h : Header) (paths : List Path) (row : List ℕ) (place : ℕ) (terms : List Term) → length row ≤ place → terms ≡ [] → IsGathered h paths row place terms
unfolding combination
gather_begins h paths row place terms l e = subst (IsGathered h paths row place) (sym e) (record {
  are = AreElementTerms-nil h;
  above = λ i m y c. absurd (Contains-nil y c);
  value = λ r. sum_of_terms-nil h.field h.bound r ∙ sym (nothing (drop place row) (drop-past row place l) r);
})
  where
    drop-past : (xs : List ℕ) (n : ℕ) → length xs ≤ n → drop n xs ≡ []
    drop-past [] zero b = refl
    drop-past [] (suc n) b = refl
    drop-past (x ∷ xs) zero b = absurd (omega arith)
    drop-past (x ∷ xs) (suc n) b = drop-past xs n (omega arith)

    nothing : (cs : List ℕ) → cs ≡ [] → (r : Path) → combination h.field h.bound cs (drop place paths) r ≡ 0
    nothing cs z r = ap (λ xs. combination h.field h.bound xs (drop place paths) r) z

-- a coefficient and the paths behind it
from_place : (h : Header) (paths : List Path) (row : List ℕ) (place : ℕ) (r : Path) → IsRow h.field (length paths) row → place < length paths
    → row_element h (drop place paths) (drop place row) r
    ≡ add h.field (mul h.field (get_or row place 0) (path_element h.bound (path_at paths place) r)) (row_element h (drop (place + 1) paths) (drop (place + 1) row) r)
from_place h paths row place r is l =
    ap₂ (λ ps cs. combination h.field h.bound cs ps r) (drop_more paths place r l) (drop_more row place 0 (omega (arith, l, is.count)))
    ∙ combination-cons h.field h.bound (get_or row place 0) (drop (place + 1) row) (get_or paths place r) (drop (place + 1) paths) r
    ∙ ap (λ p. add h.field (mul h.field (get_or row place 0) (path_element h.bound p r)) (row_element h (drop (place + 1) paths) (drop (place + 1) row) r)) (sym (path_at-is paths place r l))

pub gather_skips : (h : Header) (paths : List Path) (row : List ℕ) (place : ℕ) (terms new : List Term) → IsRow h.field (length paths) row → place < length paths → get_or row place 0 ≡ 0
    → new ≡ terms → IsGathered h paths row (place + 1) terms → IsGathered h paths row place new
gather_skips h paths row place terms new is l z e g = subst (IsGathered h paths row place) (sym e) (record {
  are = g.are;
  above = λ i m. g.above i (omega arith);
  value = λ r. g.value r
      ∙ sym (from_place h paths row place r is l ∙ ap (λ c. add h.field (mul h.field c (path_element h.bound (path_at paths place) r)) (rest r)) z
      ∙ ap (λ x. add h.field x (rest r)) (zero_mul h.field (path_element h.bound (path_at paths place) r))
      ∙ zero_add h.field (rest r) (combination-below h.field h.bound (drop (place + 1) row) (drop (place + 1) paths) r));
})
  where
    rest : Path → ℕ
    rest r = row_element h (drop (place + 1) paths) (drop (place + 1) row) r

pub gather_takes : (h : Header) (paths : List Path) (row : List ℕ) (place : ℕ) (terms new : List Term) → ListsPathsBelow h.quiver h.bound paths → IsRow h.field (length paths) row → place < length paths
    → get_or row place 0 ≢ 0 → new ≡ terms ++ record { coef = get_or row place 0; path = path_at paths place } ∷ [] → IsGathered h paths row (place + 1) terms → IsGathered h paths row place new
gather_takes h paths row place terms new lists is l n e g =
    let x : Term = record { coef = get_or row place 0; path = path_at paths place } in
    subst (IsGathered h paths row place) (sym e) (record {
      are = AreElementTerms-push h terms x g.are
          (record { nonzero = (let k : 0 < get_or row place 0 = omega (arith, n) in k); small = is.small place; short = record { path = listed_path h.quiver h.bound paths lists place l; short = listed_short h.quiver h.bound paths lists place l } })
          (λ a m. g.above place (omega arith) a m);
      above = λ i m y c. elim (Contains-append_cases terms (x ∷ []) y c) [
        | inl b ↦ g.above i (omega arith) y b
        | inr b ↦ subst (λ (z : Term). IsSmaller (path_at paths i) z.path) (Contains-one x y b) (smaller i m)
      ];
      value = λ r.
          sum_of_terms-append h.field h.bound terms (x ∷ []) r
          ∙ ap₂ (add h.field) (g.value r) (sum_of_terms-cons h.field h.bound x [] r ∙ ap (add h.field (one r)) (sum_of_terms-nil h.field h.bound r) ∙ add_zero h.field (one r) (mul_below h.field _ _))
          ∙ add_comm h.field (rest r) (one r)
          ∙ sym (from_place h paths row place r is l);
    })
  where
    one : Path → ℕ
    one r = mul h.field (get_or row place 0) (path_element h.bound (path_at paths place) r)

    rest : Path → ℕ
    rest r = row_element h (drop (place + 1) paths) (drop (place + 1) row) r

    smaller : (i : ℕ) → i < place → IsSmaller (path_at paths i) (path_at paths place)
    smaller i m = subst (λ p. IsSmaller p (path_at paths place)) (sym (path_at-is paths i (path_at paths place) (omega arith)))
        (subst (IsSmaller (get_or paths i (path_at paths place))) (sym (path_at-is paths place (path_at paths place) l)) (lists.ascending i place (path_at paths place) m l))

-- paths without a coefficient are passed by
gather_down : (h : Header) (paths : List Path) (row : List ℕ) (place k : ℕ) (terms : List Term) → IsRow h.field (length paths) row → place + k ≤ length paths → AreZeros row place (place + k)
    → IsGathered h paths row (place + k) terms → IsGathered h paths row place terms
gather_down h paths row place zero terms is l z g = let here : place + 0 ≡ place = omega arith in subst (λ n. IsGathered h paths row n terms) here g
gather_down h paths row place (suc k) terms is l z g =
    let here : place + suc k ≡ place + k + 1 = omega arith in
    gather_down h paths row place k terms is (omega (arith, l)) (λ j a b. z j a (omega (arith, b)))
    (gather_skips h paths row (place + k) terms terms is (omega (arith, l)) (z (place + k) (omega arith) (omega arith)) refl (subst (λ n. IsGathered h paths row n terms) here g))

-- the next path with a coefficient
pub gather_last : (h : Header) (paths : List Path) (row : List ℕ) (end place : ℕ) (terms new : List Term) (p : Path) → ListsPathsBelow h.quiver h.bound paths → IsRow h.field (length paths) row → end ≤ length paths
    → IsLastPlace row end place → p ≡ path_at paths place → new ≡ terms ++ record { coef = get_or row place 0; path = p } ∷ [] → IsGathered h paths row end terms → IsGathered h paths row place new
gather_last h paths row end place terms new p lists is l last e pushed g =
    let inside = last.inside in
    let whole : end ≡ place + 1 + (end - (place + 1)) = omega (arith, inside) in
    gather_takes h paths row place terms new lists is (omega (arith, inside, l)) last.nonzero (pushed ∙ (λ i. terms ++ record { coef = get_or row place 0; path = e i } ∷ []))
    (gather_down h paths row (place + 1) (end - (place + 1)) terms is (omega (arith, inside, l)) (λ j a b. last.zeros j a (omega (arith, b, whole))) (subst (λ n. IsGathered h paths row n terms) whole g))

pub gather_ends : (h : Header) (paths : List Path) (row : List ℕ) (end : ℕ) (terms : List Term) → IsRow h.field (length paths) row → end ≤ length paths → AreZeros row 0 end → IsGathered h paths row end terms
    → AreTermsOf h (row_element h paths row) terms
gather_ends h paths row end terms is l z g =
    let whole : end ≡ 0 + end = omega arith in
    let g0 = gather_down h paths row 0 end terms is (omega (arith, l)) (λ j a b. z j a (omega (arith, b))) (subst (λ n. IsGathered h paths row n terms) whole g) in
    record { are = g0.are; value = g0.value }
