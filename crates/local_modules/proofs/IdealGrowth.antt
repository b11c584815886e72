-- An ideal made larger: I + A·x·A is a two-sided ideal, and some power of it is zero where one of I is and products of members of x·A vanish.
use Rattle.std.proofs.Common.{ℕ, zero, suc, ◌+◌, ◌*◌, ◌<◌, ◌≡◌, refl, sym, ap, ap₂, ◌∙◌, arith, subst, mul-suc, mul_comm, mul-le-mul_right, not-suc-le-zero}
use Rattle.linear_algebra.specs.Field.{Gf}
use Rattle.linear_algebra.specs.Matrix.{Mat, Row, zeros, one, ◌·◌, stack}
use Rattle.linear_algebra.specs.Parts.{row, unit}
use Rattle.linear_algebra.specs.Rank.{IsInSpan, Subspace}
use Rattle.linear_algebra.proofs.MatrixLaws.{mul_assoc_mat, mul_one_mat}
use Rattle.linear_algebra.proofs.Blocks.{stack_mul}
use Rattle.linear_algebra.proofs.PartsLaws.{row-mul, unit_mul}
use Rattle.linear_algebra.proofs.LinearMaps.{as_units}
use Rattle.linear_algebra.proofs.Solving.{in_span_self, in_span_trans, in_span_mul, in_span_image, in_span_by_rows, row_in_span}
use Rattle.linear_algebra.proofs.Families.{in_span_zeros, sum_of_spaces-least, image_under, image_under-combination}
use Rattle.linear_algebra.proofs.Subspaces.{span_of, span_of-spans, span_of-spanned}
use Rattle.representations.specs.StackSpans.{stack_has_first, stack_has_second}
use Rattle.local_modules.specs.Algebra.{Algebra, Element, product_in}
use Rattle.local_modules.specs.Ideal.{IsTwoSided, PowerVanishes}
use Rattle.local_modules.proofs.AlgebraLaws.{right_matrix, left_matrix, mul-right_matrix, mul-left_matrix, product_in-same, product_in-none, product_in-one, product_in-last, product_in-blocks, zeros_product}
use Rattle.local_modules.proofs.NilIdeals.{matrix_of_combination}

block_below : (d s j i : ℕ) → j < s → i < d → d * j + i < d * s
block_below d s j i l k = let e = mul-le-mul_right d l in omega (arith, e, mul_comm (suc j) d, mul-suc d j, mul_comm s d)

-- A stack is in a span where both parts are.
in_span_stack : {q : Gf} {l m k n : ℕ} (f : Mat q l n) (a : Mat q m n) (b : Mat q k n) → IsInSpan f a → IsInSpan f b → IsInSpan f (stack a b)
in_span_stack f a b s t = record { by = stack s.by t.by; is = stack_mul s.by t.by f ∙ ap₂ (λ u v. stack u v) s.is t.is }

-- y 0, .., y (e − 1), and then a and b
append_two : {q : Gf} {n : ℕ} (e : ℕ) → (ℕ → Row q n) → Row q n → Row q n → ℕ → Row q n
append_two zero y a b zero = a
append_two zero y a b (suc i) = b
append_two (suc e) y a b zero = y zero
append_two (suc e) y a b (suc i) = append_two e (λ i. y (suc i)) a b i

append_two-before : {q : Gf} {n : ℕ} (e : ℕ) (y : ℕ → Row q n) (a b : Row q n) (i : ℕ) → i < e → append_two e y a b i ≡ y i
unfolding append_two
append_two-before zero y a b i h = absurd (not-suc-le-zero h)
append_two-before (suc e) y a b zero h = refl
append_two-before (suc e) y a b (suc i) h = append_two-before e (λ i. y (suc i)) a b i (omega arith)

append_two-first : {q : Gf} {n : ℕ} (e : ℕ) (y : ℕ → Row q n) (a b : Row q n) → append_two e y a b e ≡ a
unfolding append_two
append_two-first zero y a b = refl
append_two-first (suc e) y a b = append_two-first e (λ i. y (suc i)) a b

append_two-second : {q : Gf} {n : ℕ} (e : ℕ) (y : ℕ → Row q n) (a b : Row q n) → append_two e y a b (suc e) ≡ b
unfolding append_two
append_two-second zero y a b = refl
append_two-second (suc e) y a b = append_two-second e (λ i. y (suc i)) a b

module _ {q : Gf} (A : Algebra q) where
  -- the last two factors of a product with x, where the last but one takes up a
  two_factors : (x u a b : Element A) (e : ℕ) (y z : ℕ → Element A) → ((i : ℕ) → i < e → z i ≡ y i) → z e ≡ A.product (y e) a → z (suc e) ≡ b
      → A.product (product_in A (λ i. A.product x (z i)) (suc (suc e))) u ≡ A.product (product_in A (λ i. A.product x (y i)) (suc e)) (A.product (A.product (A.product a x) b) u)
  unfolding product_in
  two_factors x u a b e y z before first second =
      ap (λ w. A.product w u)
      (ap₂ A.product (ap₂ A.product (product_in-same A (λ i. A.product x (z i)) (λ i. A.product x (y i)) e (λ i l. ap (A.product x) (before i l))) (ap (A.product x) first)) (ap (A.product x) second))
      ∙ simp (A.associates)

  pub two_sided_right : {k : ℕ} (I : Mat q k A.size) → IsTwoSided A I → (u : Element A) → IsInSpan I (I · right_matrix A u)
  two_sided_right I t u = in_span_by_rows I (I · right_matrix A u) (λ i l.
      subst (IsInSpan I) (sym (row-mul i I (right_matrix A u) ∙ mul-right_matrix A (row i I) u)) (t.right u (row i I) (row_in_span I I i (in_span_self I))))

  pub two_sided_left : {k : ℕ} (I : Mat q k A.size) → IsTwoSided A I → (p : Element A) → IsInSpan I (I · left_matrix A p)
  two_sided_left I t p = in_span_by_rows I (I · left_matrix A p) (λ i l.
      subst (IsInSpan I) (sym (row-mul i I (left_matrix A p) ∙ mul-left_matrix A p (row i I))) (t.left p (row i I) (row_in_span I I i (in_span_self I))))

  -- The span of all a·x·b.
  unfoldable pub generated : Element A → Subspace q A.size
  generated x = image_under A.size (λ j. right_matrix A (unit q A.size j)) (span_of (right_matrix A x))

  pub generated-has : (x a b : Element A) → IsInSpan (generated x).basis (A.product (A.product a x) b)
  unfolding generated
  generated-has x a b = subst (IsInSpan (generated x).basis)
      (ap (λ z. z · right_matrix A b) (mul-right_matrix A a x) ∙ mul-right_matrix A (A.product a x) b)
      (image_under-combination A.size (λ j. right_matrix A (unit q A.size j)) (span_of (right_matrix A x)) (a · right_matrix A x) (right_matrix A b)
      (record { coefficients = b.at 0; is = sym (matrix_of_combination A A.size (b.at 0) (unit q A.size)) ∙ ap (right_matrix A) (sym (as_units b)) })
      (in_span_trans (span_of (right_matrix A x)).basis (right_matrix A x) (a · right_matrix A x) (span_of-spans (right_matrix A x)) (in_span_mul (right_matrix A x) a)))

  -- What all a·x·b are taken into, the span is taken into.
  pub generated-least : {l t : ℕ} (x : Element A) (g : Mat q A.size l) (f : Mat q t l) → ((a b : Element A) → IsInSpan f (A.product (A.product a x) b · g)) → IsInSpan f ((generated x).basis · g)
  unfolding generated image_under
  generated-least x g f h = sum_of_spaces-least A.size (λ j. span_of ((span_of (right_matrix A x)).basis · right_matrix A (unit q A.size j))) g f (λ j l.
      in_span_trans f ((span_of (right_matrix A x)).basis · right_matrix A (unit q A.size j) · g) _
      (in_span_trans f (right_matrix A x · right_matrix A (unit q A.size j) · g) _ (from_rows j)
      (in_span_image (right_matrix A x · right_matrix A (unit q A.size j)) _ g (in_span_image (right_matrix A x) _ (right_matrix A (unit q A.size j)) (span_of-spanned (right_matrix A x)))))
      (in_span_image ((span_of (right_matrix A x)).basis · right_matrix A (unit q A.size j)) _ g (span_of-spanned ((span_of (right_matrix A x)).basis · right_matrix A (unit q A.size j)))))
    where
      from_rows : (j : ℕ) → IsInSpan f (right_matrix A x · right_matrix A (unit q A.size j) · g)
      from_rows j = in_span_by_rows f _ (λ i l. subst (IsInSpan f) (sym (line i)) (h (unit q A.size i) (unit q A.size j)))
        where
          line : (i : ℕ) → row i (right_matrix A x · right_matrix A (unit q A.size j) · g) ≡ A.product (A.product (unit q A.size i) x) (unit q A.size j) · g
          line i =
              row-mul i (right_matrix A x · right_matrix A (unit q A.size j)) g
              ∙ ap (λ z. z · g)
              (row-mul i (right_matrix A x) (right_matrix A (unit q A.size j)) ∙ ap (λ z. z · right_matrix A (unit q A.size j)) (sym (unit_mul i (right_matrix A x)) ∙ mul-right_matrix A (unit q A.size i) x)
              ∙ mul-right_matrix A (A.product (unit q A.size i) x) (unit q A.size j))

  module _ {k : ℕ} (I : Mat q k A.size) (t : IsTwoSided A I) (x : Element A) where
    -- I + A·x·A
    unfoldable pub enlarged : Mat q (k + (generated x).size) A.size
    enlarged = stack I (generated x).basis

    pub enlarged-has : IsInSpan enlarged I
    unfolding enlarged
    enlarged-has = stack_has_first I (generated x).basis

    pub enlarged-has_products : (a b : Element A) → IsInSpan enlarged (A.product (A.product a x) b)
    unfolding enlarged
    enlarged-has_products a b = in_span_trans enlarged (generated x).basis _ (stack_has_second I (generated x).basis) (generated-has x a b)

    pub enlarged-has_element : IsInSpan enlarged x
    enlarged-has_element = subst (IsInSpan enlarged) (A.product_unit (A.product A.unit x) ∙ A.unit_product x) (enlarged-has_products A.unit A.unit)

    pub enlarged-least : {l s : ℕ} (g : Mat q A.size l) (f : Mat q s l) → IsInSpan f (I · g) → ((a b : Element A) → IsInSpan f (A.product (A.product a x) b · g)) → IsInSpan f (enlarged · g)
    unfolding enlarged
    enlarged-least g f i h = subst (IsInSpan f) (sym (stack_mul I (generated x).basis g)) (in_span_stack f (I · g) ((generated x).basis · g) i (generated-least x g f h))

    -- It lies in each two-sided ideal that has I and x.
    pub enlarged-within : {s : ℕ} (J : Mat q s A.size) → IsTwoSided A J → IsInSpan J I → IsInSpan J x → IsInSpan J enlarged
    enlarged-within J u i m = subst (IsInSpan J) (mul_one_mat enlarged)
        (enlarged-least (one q A.size) J (subst (IsInSpan J) (sym (mul_one_mat I)) i) (λ a b. subst (IsInSpan J) (sym (mul_one_mat _)) (u.right b (A.product a x) (u.left a x m))))

    pub enlarged-two_sided : IsTwoSided A enlarged
    enlarged-two_sided = record {
      left = λ a y s. subst (IsInSpan enlarged) (mul-left_matrix A a y)
          (in_span_trans enlarged (enlarged · left_matrix A a) (y · left_matrix A a)
          (enlarged-least (left_matrix A a) enlarged (in_span_trans enlarged I _ enlarged-has (two_sided_left I t a))
          (λ b c. subst (IsInSpan enlarged) (sym (mul-left_matrix A a (A.product (A.product b x) c) ∙ sym (A.associates a (A.product b x) c) ∙ ap (λ z. A.product z c) (sym (A.associates a b x)))) (enlarged-has_products (A.product a b) c)))
          (in_span_image enlarged y (left_matrix A a) s));
      right = λ a y s. subst (IsInSpan enlarged) (mul-right_matrix A y a)
          (in_span_trans enlarged (enlarged · right_matrix A a) (y · right_matrix A a)
          (enlarged-least (right_matrix A a) enlarged (in_span_trans enlarged I _ enlarged-has (two_sided_right I t a))
          (λ b c. subst (IsInSpan enlarged) (sym (mul-right_matrix A (A.product (A.product b x) c) a ∙ A.associates (A.product b x) c a)) (enlarged-has_products b (A.product c a))))
          (in_span_image enlarged y (right_matrix A a) s));
    }

    -- u is taken into I by all products of e members of x·A from the left.
    abbrev Settled : ℕ → Element A → Type 0
    Settled e u = (y : ℕ → Element A) → IsInSpan I (A.product (product_in A (λ i. A.product x (y i)) e) u)

    module _ (e : ℕ) (u : Element A) (h : Settled (suc e) u) where
      -- the last factor takes up what comes before the next x
      absorbed : (e : ℕ) (u : Element A) → Settled (suc e) u → (y : ℕ → Element A) (a b : Element A) → IsInSpan I (A.product (product_in A (λ i. A.product x (y i)) e) (A.product (A.product (A.product a x) b) u))
      absorbed zero u h y a b = subst (IsInSpan I) at (t.left a _ (h (λ i. b)))
        where
          at : A.product a (A.product (product_in A (λ i. A.product x b) 1) u) ≡ A.product (product_in A (λ i. A.product x (y i)) 0) (A.product (A.product (A.product a x) b) u)
          at = ap (λ z. A.product a (A.product z u)) (product_in-one A (λ i. A.product x b))
              ∙ simp (A.associates) (sym (A.unit_product _)) ∙ ap (λ z. A.product z (A.product (A.product (A.product a x) b) u)) (sym (product_in-none A (λ i. A.product x (y i))))
      absorbed (suc e) u h y a b = subst (IsInSpan I) at (h (append_two e y (A.product (y e) a) b))
        where
          z : ℕ → Element A
          z = append_two e y (A.product (y e) a) b

          at : A.product (product_in A (λ i. A.product x (append_two e y (A.product (y e) a) b i)) (suc (suc e))) u ≡ A.product (product_in A (λ i. A.product x (y i)) (suc e)) (A.product (A.product (A.product a x) b) u)
          at = two_factors x u a b e y z (append_two-before e y (A.product (y e) a) b) (append_two-first e y (A.product (y e) a) b) (append_two-second e y (A.product (y e) a) b)

      settled_product : (v : Element A) → IsInSpan enlarged v → Settled e (A.product v u)
      settled_product v m y = subst (IsInSpan I) at (in_span_trans I (enlarged · (right_matrix A u · left_matrix A p)) _ (enlarged-least (right_matrix A u · left_matrix A p) I members others) (in_span_image enlarged v (right_matrix A u · left_matrix A p) m))
        where
          p : Element A
          p = product_in A (λ i. A.product x (y i)) e

          both : (w : Element A) → w · (right_matrix A u · left_matrix A p) ≡ A.product p (A.product w u)
          both w = sym (mul_assoc_mat w (right_matrix A u) (left_matrix A p)) ∙ ap (λ z. z · left_matrix A p) (mul-right_matrix A w u) ∙ mul-left_matrix A p (A.product w u)

          at : v · (right_matrix A u · left_matrix A p) ≡ A.product p (A.product v u)
          at = both v

          members : IsInSpan I (I · (right_matrix A u · left_matrix A p))
          members = subst (IsInSpan I) (mul_assoc_mat I (right_matrix A u) (left_matrix A p))
              (in_span_trans I (I · left_matrix A p) _ (two_sided_left I t p) (in_span_image I (I · right_matrix A u) (left_matrix A p) (two_sided_right I t u)))

          others : (a b : Element A) → IsInSpan I (A.product (A.product a x) b · (right_matrix A u · left_matrix A p))
          others a b = subst (IsInSpan I) (sym (both (A.product (A.product a x) b))) (absorbed e u h y a b)

    -- Products of e members of the larger ideal take what is settled into I.
    settled_products : (e : ℕ) (h : ℕ → Element A) → ((i : ℕ) → i < e → IsInSpan enlarged (h i)) → (u : Element A) → Settled e u → IsInSpan I (A.product (product_in A h e) u)
    settled_products zero h m u s = subst (λ z. IsInSpan I (A.product z u)) (product_in-none A (λ i. A.product x x) ∙ sym (product_in-none A h)) (s (λ i. x))
    settled_products (suc e) h m u s = subst (IsInSpan I) (sym (A.associates (product_in A h e) (h e) u) ∙ ap (λ z. A.product z u) (sym (product_in-last A h e)))
        (settled_products e h (λ i l. m i (omega arith)) (A.product (h e) u) (settled_product e u s (h e) (m e (omega arith))))

    module _ (d : ℕ) (nil : (y : ℕ → Element A) → product_in A (λ i. A.product x (y i)) d ≡ zeros q 1 A.size) where
      -- Products of d members of the larger ideal are members of I.
      pub products_in_ideal : (h : ℕ → Element A) → ((i : ℕ) → i < d → IsInSpan enlarged (h i)) → IsInSpan I (product_in A h d)
      products_in_ideal h m = subst (IsInSpan I) (A.product_unit (product_in A h d))
          (settled_products d h m A.unit (λ y. subst (IsInSpan I) (sym (ap (λ z. A.product z A.unit) (nil y) ∙ zeros_product A A.unit)) (in_span_zeros 1 I)))

      pub enlarged_power : (s : ℕ) → PowerVanishes A I s → PowerVanishes A enlarged (d * s)
      enlarged_power s v h m = product_in-blocks A h d s ∙ v (λ j. product_in A (λ i. h (d * j + i)) d) (λ j l. products_in_ideal (λ i. h (d * j + i)) (λ i k. m (d * j + i) (block_below d s j i l k)))
