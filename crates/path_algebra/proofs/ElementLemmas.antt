-- Laws of elements: paths as elements, sums of terms, products with a path on each side.
use Rattle.std.proofs.Common.{ℕ, ◌≡◌, ◌≢◌, ◌<◌, ◌≤◌, ◌⊎◌, inl, inr, List, [], ◌∷◌, ◌++◌, true, false, ◌&&◌, ltb, refl, sym, ap, ◌∙◌, subst, arith, length-append}
use Rattle.std.proofs.lemmas.Bool.{and_parts, and_from, cases_Bool, cond-true, cond-false, lt-ltb, le-ltb, ltb-true, cases_lt, cases_eq, and_left, and_right}
use Rattle.linear_algebra.specs.Field.{Gf, order, add, mul}
use Rattle.linear_algebra.specs.FieldLaws.{order-pos, one-lt-order, add_below, add_assoc, zero_add, mul_zero, add_zero_zero}
use Rattle.quiver_paths.specs.declared.Path.{Path}
use Rattle.quiver_paths.specs.Path.{path_length}
use Rattle.path_algebra.specs.declared.Term.{Term}
use Rattle.path_algebra.specs.Elements.{same_path, path_element, sum_of_terms, combination, runs_between, middle, product_between}
use Rattle.path_algebra.proofs.Between.{composite, same_path-true, same_path_refl, same_path-false, cases_path, runs_between-composite, middle-composite, composite-middle}

pub path_element-self : (t : ℕ) (p : Path) → path_length p < t → path_element t p p ≡ 1
unfolding path_element
path_element-self t p h = cond-true _ 1 0 (and_from _ _ (lt-ltb _ _ h) (same_path_refl p))

pub path_element-other : (t : ℕ) (p r : Path) → (p ≡ r → ⊥) → path_element t p r ≡ 0
unfolding path_element
path_element-other t p r n = cond-false _ 1 0 (and_right (ltb (path_length p) t) _ (same_path-false p r n))

pub path_element-long : (t : ℕ) (p r : Path) → t ≤ path_length p → path_element t p r ≡ 0
unfolding path_element
path_element-long t p r h = cond-false _ 1 0 (and_left _ (same_path p r) (le-ltb _ _ h))

-- where it is not zero
pub path_element_support : (t : ℕ) (p r : Path) → path_element t p r ≢ 0 → (p ≡ r) × (path_length p < t)
unfolding path_element
path_element_support t p r n = elim (cases_Bool (ltb (path_length p) t && same_path p r)) [
  | inl h ↦ let parts = and_parts (ltb (path_length p) t) (same_path p r) h in (same_path-true p r parts.1, ltb-true _ _ parts.0)
  | inr h ↦ absurd (n (cond-false _ 1 0 h))
]

pub path_element_cases : (t : ℕ) (p r : Path) → (path_element t p r ≡ 0) ⊎ (path_element t p r ≡ 1)
unfolding path_element
path_element_cases t p r = elim (cases_Bool (ltb (path_length p) t && same_path p r)) [ inl h ↦ inr (cond-true _ 1 0 h) | inr h ↦ inl (cond-false _ 1 0 h) ]

pub path_element-below : (q : Gf) (t : ℕ) (p r : Path) → path_element t p r < order q
path_element-below q t p r = elim (path_element_cases t p r) [ inl e ↦ rw e (order-pos q) | inr e ↦ rw e (one-lt-order q) ]

pub sum_of_terms-below : (q : Gf) (t : ℕ) (terms : List Term) (p : Path) → sum_of_terms q t terms p < order q
unfolding sum_of_terms
sum_of_terms-below q t [] p = order-pos q
sum_of_terms-below q t (x ∷ terms) p = add_below q _ _

pub sum_of_terms-append : (q : Gf) (t : ℕ) (xs ys : List Term) (p : Path) → sum_of_terms q t (xs ++ ys) p ≡ add q (sum_of_terms q t xs p) (sum_of_terms q t ys p)
unfolding sum_of_terms
sum_of_terms-append q t [] ys p = sym (zero_add q _ (sum_of_terms-below q t ys p))
sum_of_terms-append q t (x ∷ xs) ys p =
    ap (λ s. add q (mul q x.coef (path_element t x.path p)) s) (sum_of_terms-append q t xs ys p) ∙ sym (add_assoc q _ _ _)

pub combination-below : (q : Gf) (t : ℕ) (c : List ℕ) (words : List Path) (p : Path) → combination q t c words p < order q
unfolding combination
combination-below q t [] words p = order-pos q
combination-below q t (a ∷ c) [] p = order-pos q
combination-below q t (a ∷ c) (w ∷ words) p = add_below q _ _

-- products

pub product-at : (t : ℕ) (u : Path) (x : Path → ℕ) (v p : Path) → path_length p < t → runs_between u v p ≡ true → product_between t u x v p ≡ x (middle u v p)
unfolding product_between
product-at t u x v p h r = cond-true _ _ _ (and_from _ _ (lt-ltb _ _ h) r)

pub product-long : (t : ℕ) (u : Path) (x : Path → ℕ) (v p : Path) → t ≤ path_length p → product_between t u x v p ≡ 0
unfolding product_between
product-long t u x v p h = cond-false _ _ _ (and_left _ (runs_between u v p) (le-ltb _ _ h))

pub product-outside : (t : ℕ) (u : Path) (x : Path → ℕ) (v p : Path) → runs_between u v p ≡ false → product_between t u x v p ≡ 0
unfolding product_between
product-outside t u x v p r = cond-false _ _ _ (and_right (ltb (path_length p) t) _ r)

-- the coefficient of u x v at u m v is that of x at m
pub product-composite : (t : ℕ) (u : Path) (x : Path → ℕ) (v m : Path) → u.end ≡ m.start → m.end ≡ v.start → path_length (composite u m v) < t
    → product_between t u x v (composite u m v) ≡ x m
product-composite t u x v m a b h = product-at t u x v _ h (runs_between-composite u m v) ∙ ap x (middle-composite u m v a b)

-- where it is not zero
pub record IsProductPath (t : ℕ) (u : Path) (x : Path → ℕ) (v p : Path) : Type 0 where
  pub short : path_length p < t
  pub between : runs_between u v p ≡ true
  pub nonzero : x (middle u v p) ≢ 0

pub product_support : (t : ℕ) (u : Path) (x : Path → ℕ) (v p : Path) → product_between t u x v p ≢ 0 → IsProductPath t u x v p
product_support t u x v p n = elim (cases_lt (path_length p) t) [
  | inl h ↦ elim (cases_Bool (runs_between u v p)) [
    | inl r ↦ record { short = h; between = r; nonzero = λ e. n (product-at t u x v p h r ∙ e) }
    | inr r ↦ absurd (n (product-outside t u x v p r))
  ]
  | inr h ↦ absurd (n (product-long t u x v p h))
]

pub product-below : (q : Gf) (t : ℕ) (u : Path) (x : Path → ℕ) (v p : Path) → ((r : Path) → x r < order q) → product_between t u x v p < order q
unfolding product_between
product-below q t u x v p h = elim (cases_Bool (ltb (path_length p) t && runs_between u v p)) [
  | inl e ↦ rw (cond-true _ (x (middle u v p)) 0 e) (h (middle u v p))
  | inr e ↦ rw (cond-false _ (x (middle u v p)) 0 e) (order-pos q)
]

-- the product is additive in x
pub product-add : (q : Gf) (t : ℕ) (u : Path) (x y : Path → ℕ) (v p : Path)
    → product_between t u (λ r. add q (x r) (y r)) v p ≡ add q (product_between t u x v p) (product_between t u y v p)
unfolding product_between
product-add q t u x y v p = elim (cases_Bool (ltb (path_length p) t && runs_between u v p)) [
  | inl e ↦ rw e refl
  | inr e ↦ rw e (sym (add_zero_zero q))
]

at_composite : (q : Gf) (t c : ℕ) (u m v : Path) → u.end ≡ m.start → m.end ≡ v.start
    → product_between t u (λ r. mul q c (path_element t m r)) v (composite u m v) ≡ mul q c (path_element t (composite u m v) (composite u m v))
at_composite q t c u m v a b = elim (cases_lt (path_length (composite u m v)) t) [
  | inl h ↦ let shorter : path_length m < t = omega (arith, length-append u.arrows (m.arrows ++ v.arrows), length-append m.arrows v.arrows) in
      product-composite t u (λ r. mul q c (path_element t m r)) v m a b h
      ∙ ap (mul q c) (path_element-self t m shorter ∙ sym (path_element-self t (composite u m v) h))
  | inr h ↦ product-long t u _ v _ h ∙ sym (ap (mul q c) (path_element-long t (composite u m v) _ h) ∙ mul_zero q c)
]

outside_composite : (q : Gf) (t c : ℕ) (u m v p : Path) → (composite u m v ≡ p → ⊥)
    → product_between t u (λ r. mul q c (path_element t m r)) v p ≡ mul q c (path_element t (composite u m v) p)
outside_composite q t c u m v p n =
    let right : mul q c (path_element t (composite u m v) p) ≡ 0 = ap (mul q c) (path_element-other t (composite u m v) p n) ∙ mul_zero q c in
    elim (cases_eq (product_between t u (λ r. mul q c (path_element t m r)) v p) 0) [
      | inl e ↦ e ∙ sym right
      | inr d ↦
          let s = product_support t u (λ r. mul q c (path_element t m r)) v p d in
          let at_middle = path_element_support t m (middle u v p) (λ e. s.nonzero (ap (mul q c) e ∙ mul_zero q c)) in
          absurd (n (ap (λ r. composite u r v) at_middle.0 ∙ composite-middle u v p s.between))
    ]

-- the product with a multiple of a path
pub product-path : (q : Gf) (t c : ℕ) (u m v p : Path) → u.end ≡ m.start → m.end ≡ v.start
    → product_between t u (λ r. mul q c (path_element t m r)) v p ≡ mul q c (path_element t (composite u m v) p)
product-path q t c u m v p a b = elim (cases_path (composite u m v) p) [
  | inl e ↦ subst (λ r. product_between t u (λ s. mul q c (path_element t m s)) v r ≡ mul q c (path_element t (composite u m v) r)) e (at_composite q t c u m v a b)
  | inr n ↦ outside_composite q t c u m v p n
]
