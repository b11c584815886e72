-- Combinations of families of matrices, sums of subspaces, and images of a subspace under a family.
use Rattle.std.proofs.Common.{ℕ, zero, suc, ◌<◌, ◌≡◌, ◌≢◌, cond, eqb, inl, inr, refl, sym, ap, ap₂, ◌∙◌, arith, subst, not-suc-le-zero, eq-eqb, ne_eqb}
use Rattle.std.proofs.lemmas.Bool.{cases_lt, cond-true, cond-false}
use Rattle.linear_algebra.specs.Field.{Gf, mul, add}
use Rattle.linear_algebra.specs.Matrix.{Mat, zeros, one, ◌⊞◌, ◌⊙◌, ◌·◌, stack, beside}
use Rattle.linear_algebra.specs.Rank.{IsInSpan, Subspace}
use Rattle.linear_algebra.specs.Families.{combine, IsCombination}
use Rattle.linear_algebra.proofs.MatrixLaws.{mul_one_mat, one_mul_mat, mul_zeros, zeros_mul, zeros_add, add_zeros, mul_add_mat, add_mul_mat, mul_scale, scale_mul, zero_scale, one_scale, scale_zeros, add_scale, scale_add, scale_scale, add_swap_mat}
use Rattle.linear_algebra.proofs.Blocks.{stack_mul, beside_stack, no_rows}
use Rattle.linear_algebra.proofs.Solving.{in_span_trans, in_span_sum, in_span_image}
use Rattle.linear_algebra.proofs.Subspaces.{span_of, span_of-spans, span_of-spanned}

module _ {q : Gf} {m n : ℕ} where
  pub combine-same : (s : ℕ) (c d : ℕ → ℕ) (g : ℕ → Mat q m n) → ((i : ℕ) → i < s → c i ≡ d i) → combine s c g ≡ combine s d g
  unfolding combine
  combine-same zero c d g h = refl
  combine-same (suc s) c d g h = ap₂ (λ u v. u ⊞ v) (combine-same s c d g (λ i l. h i (omega arith))) (ap (λ z. z ⊙ g s) (h s (omega arith)))

  pub combination_none : (g : ℕ → Mat q m n) → IsCombination 0 g (zeros q m n)
  unfolding combine
  combination_none g = record { coefficients = λ i. 0; is = refl }

  -- one member more
  pub combination_more : (s : ℕ) (g : ℕ → Mat q m n) (r : Mat q m n) (c : ℕ) → IsCombination s g r → IsCombination (suc s) g (r ⊞ c ⊙ g s)
  unfolding combine
  combination_more s g r c k = record {
    coefficients = λ i. cond (eqb i s) c (k.coefficients i);
    is = ap₂ (λ u v. u ⊞ v)
        (combine-same s _ k.coefficients g (λ i l. let d : i ≢ s = omega arith in cond-false (eqb i s) c (k.coefficients i) (ne_eqb i s d)) ∙ k.is)
        (ap (λ z. z ⊙ g s) (cond-true (eqb s s) c (k.coefficients s) (eq-eqb s s refl)));
  }

  pub combination_zeros : (s : ℕ) (g : ℕ → Mat q m n) → IsCombination s g (zeros q m n)
  combination_zeros zero g = combination_none g
  combination_zeros (suc s) g = subst (IsCombination (suc s) g) (ap (λ z. zeros q m n ⊞ z) (zero_scale (g s)) ∙ add_zeros (zeros q m n)) (combination_more s g (zeros q m n) 0 (combination_zeros s g))

  -- each member is a combination
  pub combination_member : (s : ℕ) (g : ℕ → Mat q m n) (i : ℕ) → i < s → IsCombination s g (g i)
  combination_member zero g i h = absurd (not-suc-le-zero h)
  combination_member (suc s) g i h = elim (cases_lt i s) [
    | inl l ↦ subst (IsCombination (suc s) g) (ap (λ z. g i ⊞ z) (zero_scale (g s)) ∙ add_zeros (g i)) (combination_more s g (g i) 0 (combination_member s g i l))
    | inr l ↦
        let last : s ≡ i = omega arith in
        subst (IsCombination (suc s) g) (zeros_add (1 ⊙ g s) ∙ one_scale (g s) ∙ ap g last) (combination_more s g (zeros q m n) 1 (combination_zeros s g))
  ]

  combine-sum : (s : ℕ) (c d : ℕ → ℕ) (g : ℕ → Mat q m n) → combine s (λ i. add q (c i) (d i)) g ≡ combine s c g ⊞ combine s d g
  unfolding combine
  combine-sum zero c d g = sym (add_zeros (zeros q m n))
  combine-sum (suc s) c d g = ap₂ (λ u v. u ⊞ v) (combine-sum s c d g) (add_scale (c s) (d s) (g s)) ∙ add_swap_mat (combine s c g) (combine s d g) (c s ⊙ g s) (d s ⊙ g s)

  combine-scale : (s b : ℕ) (c : ℕ → ℕ) (g : ℕ → Mat q m n) → combine s (λ i. mul q b (c i)) g ≡ b ⊙ combine s c g
  unfolding combine
  combine-scale zero b c g = sym (scale_zeros b)
  combine-scale (suc s) b c g = ap₂ (λ u v. u ⊞ v) (combine-scale s b c g) (sym (scale_scale b (c s) (g s))) ∙ sym (scale_add b (combine s c g) (c s ⊙ g s))

  -- sums and multiples of combinations
  pub combination_sum : (s : ℕ) (g : ℕ → Mat q m n) (r t : Mat q m n) → IsCombination s g r → IsCombination s g t → IsCombination s g (r ⊞ t)
  combination_sum s g r t k l = record {
    coefficients = λ i. add q (k.coefficients i) (l.coefficients i);
    is = combine-sum s k.coefficients l.coefficients g ∙ ap₂ (λ u v. u ⊞ v) k.is l.is;
  }

  pub combination_scale : (s : ℕ) (g : ℕ → Mat q m n) (b : ℕ) (r : Mat q m n) → IsCombination s g r → IsCombination s g (b ⊙ r)
  combination_scale s g b r k = record { coefficients = λ i. mul q b (k.coefficients i); is = combine-scale s b k.coefficients g ∙ ap (λ z. b ⊙ z) k.is }

  -- a combination of combinations of a family is a combination of the family
  pub combination_of : (s t : ℕ) (c : ℕ → ℕ) (g h : ℕ → Mat q m n) → ((i : ℕ) → i < t → IsCombination s g (h i)) → IsCombination s g (combine t c h)
  unfolding combine
  combination_of s zero c g h k = combination_zeros s g
  combination_of s (suc t) c g h k = combination_sum s g (combine t c h) (c t ⊙ h t) (combination_of s t c g h (λ i l. k i (omega arith))) (combination_scale s g (c t) (h t) (k t (omega arith)))

-- A product with a combination is the combination of the products.
pub mul_combine : {q : Gf} {m k n : ℕ} (s : ℕ) (c : ℕ → ℕ) (a : Mat q m k) (g : ℕ → Mat q k n) → a · combine s c g ≡ combine s c (λ i. a · g i)
unfolding combine
mul_combine zero c a g = mul_zeros a
mul_combine (suc s) c a g = mul_add_mat a (combine s c g) (c s ⊙ g s) ∙ ap₂ (λ u v. u ⊞ v) (mul_combine s c a g) (mul_scale (c s) a (g s))

pub combine_mul : {q : Gf} {m k n : ℕ} (s : ℕ) (c : ℕ → ℕ) (g : ℕ → Mat q m k) (a : Mat q k n) → combine s c g · a ≡ combine s c (λ i. g i · a)
unfolding combine
combine_mul zero c g a = zeros_mul a
combine_mul (suc s) c g a = add_mul_mat (combine s c g) (c s ⊙ g s) a ∙ ap₂ (λ u v. u ⊞ v) (combine_mul s c g a) (scale_mul (c s) (g s) a)

pub in_span_zeros : {q : Gf} {m n : ℕ} (k : ℕ) (f : Mat q m n) → IsInSpan f (zeros q k n)
in_span_zeros {q} {m} k f = record { by = zeros q k m; is = zeros_mul f }

pub in_span_scale : {q : Gf} {m n k : ℕ} (f : Mat q m n) (c : ℕ) (y : Mat q k n) → IsInSpan f y → IsInSpan f (c ⊙ y)
in_span_scale f c y s = record { by = c ⊙ s.by; is = scale_mul c s.by f ∙ ap (λ z. c ⊙ z) s.is }

-- A combination of matrices whose rows are in a span has its rows in it.
pub combine_in_span : {q : Gf} {m n k : ℕ} (f : Mat q m n) (s : ℕ) (c : ℕ → ℕ) (y : ℕ → Mat q k n) → ((i : ℕ) → i < s → IsInSpan f (y i)) → IsInSpan f (combine s c y)
unfolding combine
combine_in_span {k = k} f zero c y h = in_span_zeros k f
combine_in_span f (suc s) c y h = in_span_sum f (combine s c y) (c s ⊙ y s) (combine_in_span f s c y (λ i l. h i (omega arith))) (in_span_scale f (c s) (y s) (h s (omega arith)))

-- Sums of subspaces.
unfoldable pub empty_subspace : (q : Gf) (n : ℕ) → Subspace q n
empty_subspace q n = record { size = 0; basis = zeros q 0 n; independent = record { inverse = zeros q n 0; is = no_rows _ _ } }

unfoldable pub sum_of_spaces : {q : Gf} {n : ℕ} → ℕ → (ℕ → Subspace q n) → Subspace q n
sum_of_spaces {q} {n} zero U = empty_subspace q n
sum_of_spaces (suc s) U = span_of (stack (sum_of_spaces s U).basis (U s).basis)

stack_first_in : {q : Gf} {m k n : ℕ} (a : Mat q m n) (b : Mat q k n) → IsInSpan (stack a b) a
stack_first_in {q} {m} {k} a b = record { by = beside (one q m) (zeros q m k); is = beside_stack (one q m) (zeros q m k) a b ∙ ap₂ (λ u v. u ⊞ v) (one_mul_mat a) (zeros_mul b) ∙ add_zeros a }

stack_second_in : {q : Gf} {m k n : ℕ} (a : Mat q m n) (b : Mat q k n) → IsInSpan (stack a b) b
stack_second_in {q} {m} {k} a b = record { by = beside (zeros q k m) (one q k); is = beside_stack (zeros q k m) (one q k) a b ∙ ap₂ (λ u v. u ⊞ v) (zeros_mul a) (one_mul_mat b) ∙ zeros_add b }

stack_in : {q : Gf} {m k l n : ℕ} (f : Mat q l n) (a : Mat q m n) (b : Mat q k n) → IsInSpan f a → IsInSpan f b → IsInSpan f (stack a b)
stack_in f a b s t = record { by = stack s.by t.by; is = stack_mul s.by t.by f ∙ ap₂ stack s.is t.is }

-- Each summand is in the sum.
pub sum_of_spaces-contains : {q : Gf} {n : ℕ} (s : ℕ) (U : ℕ → Subspace q n) (i : ℕ) → i < s → IsInSpan (sum_of_spaces s U).basis (U i).basis
unfolding sum_of_spaces
sum_of_spaces-contains zero U i h = absurd (not-suc-le-zero h)
sum_of_spaces-contains (suc s) U i h = elim (cases_lt i s) [
  | inl l ↦
      in_span_trans _ (stack (sum_of_spaces s U).basis (U s).basis) _ (span_of-spans (stack (sum_of_spaces s U).basis (U s).basis))
      (in_span_trans _ (sum_of_spaces s U).basis _ (stack_first_in (sum_of_spaces s U).basis (U s).basis) (sum_of_spaces-contains s U i l))
  | inr l ↦
      let last : s ≡ i = omega arith in
      subst (λ i. IsInSpan (span_of (stack (sum_of_spaces s U).basis (U s).basis)).basis (U i).basis) last
      (in_span_trans _ (stack (sum_of_spaces s U).basis (U s).basis) _ (span_of-spans (stack (sum_of_spaces s U).basis (U s).basis)) (stack_second_in (sum_of_spaces s U).basis (U s).basis))
]

-- What the summands have in a span under a matrix, the sum has.
pub sum_of_spaces-least : {q : Gf} {n l t : ℕ} (s : ℕ) (U : ℕ → Subspace q n) (g : Mat q n l) (f : Mat q t l) → ((i : ℕ) → i < s → IsInSpan f ((U i).basis · g)) → IsInSpan f ((sum_of_spaces s U).basis · g)
unfolding sum_of_spaces empty_subspace
sum_of_spaces-least zero U g f h = record { by = zeros _ 0 _; is = no_rows _ _ }
sum_of_spaces-least (suc s) U g f h =
    let all = stack_in f ((sum_of_spaces s U).basis · g) ((U s).basis · g) (sum_of_spaces-least s U g f (λ i l. h i (omega arith))) (h s (omega arith)) in
    let image = in_span_image (stack (sum_of_spaces s U).basis (U s).basis) (span_of (stack (sum_of_spaces s U).basis (U s).basis)).basis g (span_of-spanned (stack (sum_of_spaces s U).basis (U s).basis)) in
    in_span_trans f (stack (sum_of_spaces s U).basis (U s).basis · g) _ (rw stack_mul all) image

-- A product of combinations is a combination, where the products of members are.
pub combination_product : {q : Gf} {n : ℕ} (s : ℕ) (g : ℕ → Mat q n n) → ((i j : ℕ) → i < s → j < s → IsCombination s g (g i · g j)) → (r t : Mat q n n) → IsCombination s g r → IsCombination s g t → IsCombination s g (r · t)
combination_product s g closed r t k l =
    let member : (i : ℕ) → i < s → IsCombination s g (g i · t) = λ i h.
    subst (IsCombination s g) (sym (mul_combine s l.coefficients (g i) g) ∙ ap (λ z. g i · z) l.is) (combination_of s s l.coefficients g (λ j. g i · g j) (λ j b. closed i j h b)) in
    subst (IsCombination s g) (sym (combine_mul s k.coefficients g t) ∙ ap (λ z. z · t) k.is) (combination_of s s k.coefficients g (λ i. g i · t) member)

-- The image of a subspace under a family of matrices: the sum of the images under its members.
unfoldable pub image_under : {q : Gf} {n : ℕ} → ℕ → (ℕ → Mat q n n) → Subspace q n → Subspace q n
image_under s g U = sum_of_spaces s (λ i. span_of (U.basis · g i))

module _ {q : Gf} {n : ℕ} (s : ℕ) (g : ℕ → Mat q n n) where
  pub image_under-contains : (U : Subspace q n) (i : ℕ) → i < s → IsInSpan (image_under s g U).basis (U.basis · g i)
  unfolding image_under
  image_under-contains U i h =
      in_span_trans _ (span_of (U.basis · g i)).basis _ (sum_of_spaces-contains s (λ i. span_of (U.basis · g i)) i h) (span_of-spans (U.basis · g i))

  pub image_under-least : {t : ℕ} (U : Subspace q n) (f : Mat q t n) → ((i : ℕ) → i < s → IsInSpan f (U.basis · g i)) → IsInSpan f (image_under s g U).basis
  unfolding image_under
  image_under-least U f h =
      subst (IsInSpan f) (mul_one_mat _)
      (sum_of_spaces-least s (λ i. span_of (U.basis · g i)) (one q n) f (λ i l.
      subst (IsInSpan f) (sym (mul_one_mat _)) (in_span_trans f (U.basis · g i) _ (h i l) (span_of-spanned (U.basis · g i)))))

  -- rows in a subspace go into its image
  pub image_under-in : {k : ℕ} (U : Subspace q n) (y : Mat q k n) (i : ℕ) → i < s → IsInSpan U.basis y → IsInSpan (image_under s g U).basis (y · g i)
  image_under-in U y i h t = in_span_trans _ (U.basis · g i) _ (image_under-contains U i h) (in_span_image U.basis y (g i) t)

  pub image_under-combination : {k : ℕ} (U : Subspace q n) (y : Mat q k n) (r : Mat q n n) → IsCombination s g r → IsInSpan U.basis y → IsInSpan (image_under s g U).basis (y · r)
  image_under-combination U y r c t =
      subst (IsInSpan (image_under s g U).basis) (sym (mul_combine s c.coefficients y g) ∙ ap (λ z. y · z) c.is)
      (combine_in_span (image_under s g U).basis s c.coefficients (λ i. y · g i) (λ i h. image_under-in U y i h t))

  -- a larger subspace has a larger image
  pub image_under-grows : (U V : Subspace q n) → IsInSpan V.basis U.basis → IsInSpan (image_under s g V).basis (image_under s g U).basis
  image_under-grows U V t = image_under-least U (image_under s g V).basis (λ i h. image_under-in V U.basis i h t)
