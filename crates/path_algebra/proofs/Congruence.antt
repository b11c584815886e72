-- A path is congruent to what it becomes by reduction, where the rules are in the ideal.
use Rattle.std.proofs.Common.{ℕ, ◌≡◌, ◌⊎◌, inl, inr, List, [], ◌∷◌, ◌&&◌, true, false, if◌then◌else◌, eqb, sym, ap, ap₂, ◌∙◌}
use Rattle.std.specs.Prelude.{Contains}
use mathlib.Core.Path.{fun_ext}
use Rattle.std.proofs.lemmas.Bool.{cases_Bool, cases_eq, cond-true, cond-false, and_parts, and_from, eqb-true, eq-eqb, both_ways}
use Rattle.linear_algebra.specs.Field.{Gf, add, mul, sub, neg}
use Rattle.linear_algebra.specs.FieldLaws.{mul_zero, sub_def, sub_self, add_assoc, neg_add_self, zero_add, neg_below, mul_add, mul_neg, neg-add, add_swap, one_mul, neg_mul, one_mul-mod, neg-mod}
use Rattle.quiver_paths.specs.declared.Path.{Path}
use Rattle.quiver_paths.specs.Path.{IsPath, Meets}
use Rattle.quiver_paths.proofs.ListLemmas.{Contains-head, Contains-behind}
use Rattle.path_algebra.specs.declared.Term.{Term}
use Rattle.path_algebra.specs.declared.Header.{Header}
use Rattle.path_algebra.specs.declared.rules.Rule.{Rule}
use Rattle.path_algebra.specs.Elements.{sum_over, path_element, sum_of_terms, product_between, middle}
use Rattle.path_algebra.specs.Ideals.{IsInIdeal}
use Rattle.path_algebra.specs.Rules.{rule_element}
use Rattle.path_algebra.specs.Reduction.{sum_between, IsReduction}
use Rattle.path_algebra.proofs.Between.{composite, middle-start, middle-end}
use Rattle.path_algebra.proofs.ElementLemmas.{path_element-below, path_element-long, path_element_support, product-path, product-add, product_support}
use Rattle.path_algebra.proofs.IdealLemmas.{IsInIdeal-same, IsInIdeal-zero, IsInIdeal-add, IsInIdeal-mul}
use Rattle.path_algebra.proofs.IdealProducts.{IsInIdeal-between, product-nothing, product-mul}
use Rattle.path_algebra.proofs.SumsOver.{sum_over-cons, sum_over-nil}
use Rattle.path_algebra.proofs.Reducing.{AreRules, by_reduction, rewritten_smaller}

pub sub_telescope : (q : Gf) (a b c : ℕ) → add q (sub q a b) (sub q b c) ≡ sub q a c
sub_telescope q a b c =
    ap₂ (add q) (sub_def q a b) (sub_def q b c) ∙ add_assoc q a (neg q b) (add q b (neg q c))
    ∙ ap (add q a) (sym (add_assoc q (neg q b) b (neg q c)) ∙ ap (λ z. add q z (neg q c)) (neg_add_self q b) ∙ zero_add q (neg q c) (neg_below q c))
    ∙ sym (sub_def q a c)

pub mul-sub : (q : Gf) (c a b : ℕ) → mul q c (sub q a b) ≡ sub q (mul q c a) (mul q c b)
mul-sub q c a b = ap (mul q c) (sub_def q a b) ∙ mul_add q c a (neg q b) ∙ ap (add q (mul q c a)) (mul_neg q c b) ∙ sym (sub_def q (mul q c a) (mul q c b))

pub add-sub : (q : Gf) (a b c d : ℕ) → sub q (add q a b) (add q c d) ≡ add q (sub q a c) (sub q b d)
add-sub q a b c d =
    sub_def q (add q a b) (add q c d) ∙ ap (add q (add q a b)) (neg-add q c d) ∙ add_swap q a b (neg q c) (neg q d)
    ∙ sym (ap₂ (add q) (sub_def q a c) (sub_def q b d))

pub product-sub : (q : Gf) (t : ℕ) (u : Path) (x y : Path → ℕ) (v p : Path)
    → product_between t u (λ r. sub q (x r) (y r)) v p ≡ sub q (product_between t u x v p) (product_between t u y v p)
product-sub q t u x y v p =
    ap (λ z. product_between t u z v p) (fun_ext (λ r. sub_def q (x r) (y r) ∙ ap (add q (x r)) (minus (y r))))
    ∙ product-add q t u x (λ r. mul q (neg q 1) (y r)) v p
    ∙ ap (add q (product_between t u x v p)) (product-mul q t (neg q 1) u y v p ∙ sym (minus (product_between t u y v p)))
    ∙ sym (sub_def q (product_between t u x v p) (product_between t u y v p))
  where
    minus : (a : ℕ) → neg q a ≡ mul q (neg q 1) a
    minus a = sym (neg_mul q 1 a ∙ ap (neg q) (one_mul-mod q a) ∙ neg-mod q a)

-- a multiple of a path between two others, zero where they do not meet
pub product-one : (q : Gf) (t : ℕ) (u v : Path) (a : Term) (p : Path) → product_between t u (λ r. mul q a.coef (path_element t a.path r)) v p
    ≡ (if eqb u.end a.path.start && eqb a.path.end v.start then mul q a.coef (path_element t (composite u a.path v) p) else 0)
product-one q t u v a p = elim (cases_Bool (eqb u.end a.path.start && eqb a.path.end v.start)) [
  | inl e ↦
      let parts = and_parts (eqb u.end a.path.start) (eqb a.path.end v.start) e in
      product-path q t a.coef u a.path v p (eqb-true _ _ parts.0) (eqb-true _ _ parts.1) ∙ sym (cond-true _ _ 0 e)
  | inr e ↦ elim (cases_eq (product_between t u (λ r. mul q a.coef (path_element t a.path r)) v p) 0) [
    | inl z ↦ z ∙ sym (cond-false _ _ 0 e)
    | inr n ↦
        let o = product_support t u (λ r. mul q a.coef (path_element t a.path r)) v p n in
        let is : a.path ≡ middle u v p = (path_element_support t a.path (middle u v p) (λ z. o.nonzero (ap (mul q a.coef) z ∙ mul_zero q a.coef))).0 in
        absurd (both_ways _ e (and_from _ _ (eq-eqb _ _ (middle-start u v p ∙ ap (λ (x : Path). x.start) (sym is))) (eq-eqb _ _ (ap (λ (x : Path). x.end) is ∙ middle-end u v p))))
  ]
]

-- the product of a sum of terms with a path on each side
pub product-between_terms : (h : Header) (u : Path) (terms : List Term) (v p : Path)
    → product_between h.bound u (sum_of_terms h.field h.bound terms) v p ≡ sum_between h (path_element h.bound) u terms v p
unfolding sum_of_terms sum_between
product-between_terms h u [] v p = product-nothing h.bound u v p ∙ sym (sum_over-nil {X = Term} h.field _)
product-between_terms h u (a ∷ terms) v p =
    product-add h.field h.bound u (λ r. mul h.field a.coef (path_element h.bound a.path r)) (sum_of_terms h.field h.bound terms) v p
    ∙ ap₂ (add h.field) (product-one h.field h.bound u v a p) (product-between_terms h u terms v p)
    ∙ sym (sum_over-cons h.field a terms _)

-- sums of congruent elements are congruent
congruent_between : (h : Header) (f g : Path → Path → ℕ) (u : Path) (terms : List Term) (v : Path)
    → ((a : Term) → Contains terms a → Meets u a.path → Meets a.path v → IsInIdeal h (λ r. sub h.field (f (composite u a.path v) r) (g (composite u a.path v) r)))
    → IsInIdeal h (λ r. sub h.field (sum_between h f u terms v r) (sum_between h g u terms v r))
unfolding sum_between sum_over
congruent_between h f g u [] v m = IsInIdeal-same h (λ _. 0) _ (λ r. sub_self h.field 0) (IsInIdeal-zero h)
congruent_between h f g u (a ∷ terms) v m =
    IsInIdeal-same h _ _ (λ r. add-sub h.field _ _ _ _)
    (IsInIdeal-add h _ _ (one (cases_Bool (eqb u.end a.path.start && eqb a.path.end v.start))) (congruent_between h f g u terms v (λ b n. m b (Contains-behind a terms b n))))
  where
    chosen : (Path → Path → ℕ) → Path → ℕ
    chosen k r = if eqb u.end a.path.start && eqb a.path.end v.start then mul h.field a.coef (k (composite u a.path v) r) else 0

    one : ((eqb u.end a.path.start && eqb a.path.end v.start) ≡ true) ⊎ ((eqb u.end a.path.start && eqb a.path.end v.start) ≡ false)
        → IsInIdeal h (λ r. sub h.field (chosen f r) (chosen g r))
    one (inl e) =
        let parts = and_parts (eqb u.end a.path.start) (eqb a.path.end v.start) e in
        IsInIdeal-same h (λ r. mul h.field a.coef (sub h.field (f (composite u a.path v) r) (g (composite u a.path v) r))) _
        (λ r. ap₂ (sub h.field) (cond-true _ _ 0 e) (cond-true _ _ 0 e) ∙ sym (mul-sub h.field a.coef _ _))
        (IsInIdeal-mul h a.coef _ (m a (Contains-head a terms) (eqb-true _ _ parts.0) (eqb-true _ _ parts.1)))
    one (inr e) = IsInIdeal-same h (λ _. 0) _ (λ r. ap₂ (sub h.field) (cond-false _ _ 0 e) (cond-false _ _ 0 e) ∙ sub_self h.field 0) (IsInIdeal-zero h)

-- the product of a tip with what stands before and behind it
pub product-tip : (h : Header) (u m v p : Path) → Meets u m → Meets m v → p ≡ composite u m v → (r : Path) → product_between h.bound u (path_element h.bound m) v r ≡ path_element h.bound p r
product-tip h u m v p a b e r =
    ap (λ x. product_between h.bound u x v r) (fun_ext (λ q. sym (one_mul h.field _ (path_element-below h.field h.bound m q))))
    ∙ product-path h.field h.bound 1 u m v r a b
    ∙ one_mul h.field _ (path_element-below h.field h.bound (composite u m v) r)
    ∙ ap (λ x. path_element h.bound x r) (sym e)

-- sums of congruent elements with the same coefficients
pub sums_congruent : {X : Type 0} (h : Header) (xs : List X) (c : X → ℕ) (f g : X → Path → ℕ) → ((x : X) → Contains xs x → IsInIdeal h (λ r. sub h.field (f x r) (g x r)))
    → IsInIdeal h (λ r. sub h.field (sum_over h.field xs (λ x. mul h.field (c x) (f x r))) (sum_over h.field xs (λ x. mul h.field (c x) (g x r))))
unfolding sum_over
sums_congruent h [] c f g m = IsInIdeal-same h (λ _. 0) _ (λ r. sub_self h.field 0) (IsInIdeal-zero h)
sums_congruent h (x ∷ xs) c f g m = IsInIdeal-same h _ _ (λ r. add-sub h.field _ _ _ _)
    (IsInIdeal-add h _ _
    (IsInIdeal-same h (λ r. mul h.field (c x) (sub h.field (f x r) (g x r))) _ (λ r. sym (mul-sub h.field (c x) (f x r) (g x r))) (IsInIdeal-mul h (c x) _ (m x (Contains-head x xs))))
    (sums_congruent h xs c f g (λ y n. m y (Contains-behind x xs y n))))

-- u·tip·v is congruent to what u·tail·v becomes
pub rewritten_congruent : (h : Header) (becomes : Path → Path → ℕ) (rule : Rule) → IsInIdeal h (rule_element h rule) → (u v p : Path) → IsPath h.quiver u → IsPath h.quiver v
    → Meets u rule.tip → Meets rule.tip v → p ≡ composite u rule.tip v
    → ((a : Term) → Contains rule.tail.terms a → Meets u a.path → Meets a.path v → IsInIdeal h (λ r. sub h.field (path_element h.bound (composite u a.path v) r) (becomes (composite u a.path v) r)))
    → IsInIdeal h (λ r. sub h.field (path_element h.bound p r) (sum_between h becomes u rule.tail.terms v r))
rewritten_congruent h becomes rule m u v p hu hv a b e before = IsInIdeal-same h _ _
    (λ r. sym (sub_telescope h.field (path_element h.bound p r) (sum_between h (path_element h.bound) u rule.tail.terms v r) (sum_between h becomes u rule.tail.terms v r)))
    (IsInIdeal-add h _ _
    (IsInIdeal-same h (product_between h.bound u (rule_element h rule) v) _
    (λ r. sym (product-sub h.field h.bound u (path_element h.bound rule.tip) (sum_of_terms h.field h.bound rule.tail.terms) v r
    ∙ ap₂ (sub h.field) (product-tip h u rule.tip v p a b e r) (product-between_terms h u rule.tail.terms v r)))
    (IsInIdeal-between h u v (rule_element h rule) hu hv m))
    (congruent_between h (path_element h.bound) becomes u rule.tail.terms v before))

pub congruent_to_reduction : (h : Header) (rules : List Rule) → AreRules h rules → (becomes : Path → Path → ℕ) → IsReduction h rules becomes
    → ((rule : Rule) → Contains rules rule → IsInIdeal h (rule_element h rule)) → (p : Path) → IsPath h.quiver p
    → IsInIdeal h (λ r. sub h.field (path_element h.bound p r) (becomes p r))
congruent_to_reduction h rules k becomes red m = by_reduction h rules k (λ p. IsInIdeal h (λ r. sub h.field (path_element h.bound p r) (becomes p r)))
    (λ p hp l. IsInIdeal-same h (λ _. 0) _ (λ r. ap₂ (sub h.field) (path_element-long h.bound p r l) (red.long p hp l r) ∙ sub_self h.field 0) (IsInIdeal-zero h))
    (λ p s n. IsInIdeal-same h (λ _. 0) _ (λ r. ap (sub h.field (path_element h.bound p r)) (red.stays p s n r) ∙ sub_self h.field (path_element h.bound p r)) (IsInIdeal-zero h))
    (λ p s o before. IsInIdeal-same h _ _ (λ r. ap (sub h.field (path_element h.bound p r)) (red.rewritten p s o r))
    (rewritten_congruent h becomes o.rule (m o.rule o.listed) o.before o.behind p o.before_is o.behind_is o.meets_before o.meets_behind o.whole
    (λ a n mu mv. before a n mu mv (rewritten_smaller h rules k p o a n mu mv))))
