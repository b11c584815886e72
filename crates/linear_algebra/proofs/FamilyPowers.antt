-- Products of k members of a family vanish exactly where the k-th image of all rows is zero; then products of k combinations vanish too.
use Rattle.std.proofs.Common.{ℕ, zero, suc, ◌+◌, ◌<◌, ◌≡◌, refl, sym, ap, ap₂, ◌∙◌, arith, subst}
use Rattle.linear_algebra.specs.Field.{Gf}
use Rattle.linear_algebra.specs.Matrix.{Mat, zeros, one, ◌·◌}
use Rattle.linear_algebra.specs.Rank.{IsInSpan, Subspace}
use Rattle.linear_algebra.specs.Families.{IsCombination, ordered_product}
use Rattle.linear_algebra.proofs.MatrixLaws.{mul_assoc_mat, mul_one_mat, one_mul_mat, mul_zeros}
use Rattle.linear_algebra.proofs.Solving.{in_span_trans, in_span_image}
use Rattle.linear_algebra.proofs.Steinitz.{through_none}
use Rattle.linear_algebra.proofs.Subspaces.{span_of, span_of-spanned}
use Rattle.linear_algebra.proofs.Families.{in_span_zeros, sum_of_spaces-least, image_under}
use Rattle.linear_algebra.proofs.NilOrFixed.{whole, images, products_in}

-- A product, from its first factor on.
pub ordered_product-none : {q : Gf} {n : ℕ} (h : ℕ → Mat q n n) → ordered_product h 0 ≡ one q n
unfolding ordered_product
ordered_product-none h = refl

pub ordered_product-last : {q : Gf} {n : ℕ} (h : ℕ → Mat q n n) (k : ℕ) → ordered_product h (suc k) ≡ ordered_product h k · h k
unfolding ordered_product
ordered_product-last h k = refl

pub ordered_product-first : {q : Gf} {n : ℕ} (h : ℕ → Mat q n n) (k : ℕ) → ordered_product h (suc k) ≡ h 0 · ordered_product (λ i. h (suc i)) k
unfolding ordered_product
ordered_product-first h zero = one_mul_mat (h 0) ∙ sym (mul_one_mat (h 0))
ordered_product-first h (suc k) = ap (λ z. z · h (suc k)) (ordered_product-first h k) ∙ mul_assoc_mat (h 0) (ordered_product (λ i. h (suc i)) k) (h (suc k))

pub ordered_product-add : {q : Gf} {n : ℕ} (h : ℕ → Mat q n n) (j k : ℕ) → ordered_product h (j + k) ≡ ordered_product h j · ordered_product (λ i. h (j + i)) k
unfolding ordered_product
ordered_product-add h j zero = let same : j + 0 ≡ j = omega arith in ap (ordered_product h) same ∙ sym (mul_one_mat (ordered_product h j))
ordered_product-add h j (suc k) =
    let same : j + suc k ≡ suc (j + k) = omega arith in
    ap (ordered_product h) same ∙ ap (λ z. z · h (j + k)) (ordered_product-add h j k) ∙ mul_assoc_mat (ordered_product h j) (ordered_product (λ i. h (j + i)) k) (h (j + k))

pub ordered_product-same : {q : Gf} {n : ℕ} (h g : ℕ → Mat q n n) (k : ℕ) → ((i : ℕ) → i < k → h i ≡ g i) → ordered_product h k ≡ ordered_product g k
unfolding ordered_product
ordered_product-same h g zero e = refl
ordered_product-same h g (suc k) e = ap₂ (λ u v. u · v) (ordered_product-same h g k (λ i l. e i (omega arith))) (e k (omega arith))

-- a subspace whose basis is in the span of no rows is zero
zero_basis : {q : Gf} {k n : ℕ} (y : Mat q k n) → IsInSpan (zeros q 0 n) y → y ≡ zeros q k n
zero_basis {q} {k} {n} y s = sym s.is ∙ through_none s.by (zeros q 0 n)

module _ {q : Gf} {n : ℕ} (s : ℕ) (g : ℕ → Mat q n n) where
  images-shift : (U : Subspace q n) (k : ℕ) → images s g U (suc k) ≡ images s g (image_under s g U) k
  unfolding images
  images-shift U zero = refl
  images-shift U (suc k) = ap (image_under s g) (images-shift U k)

  -- where every product of k members takes U to zero, the k-th image of U is zero
  vanish_from : (k : ℕ) (U : Subspace q n) → ((w : ℕ → ℕ) → ((i : ℕ) → i < k → w i < s) → U.basis · ordered_product (λ i. g (w i)) k ≡ zeros q U.size n) → (images s g U k).basis ≡ zeros q (images s g U k).size n
  unfolding images image_under
  vanish_from zero U h = sym (mul_one_mat U.basis) ∙ ap (λ z. U.basis · z) (sym (ordered_product-none (λ i. g 0))) ∙ h (λ i. 0) (λ i l. absurd (omega arith))
  vanish_from (suc k) U h =
      subst (λ (V : Subspace q n). V.basis ≡ zeros q V.size n) (sym (images-shift U k))
      (vanish_from k (image_under s g U) (λ w b. zero_basis _
      (sum_of_spaces-least s (λ i. span_of (U.basis · g i)) (ordered_product (λ i. g (w i)) k) (zeros q 0 n) (λ i l.
      in_span_trans (zeros q 0 n) (U.basis · g i · ordered_product (λ i. g (w i)) k) _
      (subst (IsInSpan (zeros q 0 n)) (sym (word i l w b)) (in_span_zeros U.size (zeros q 0 n)))
      (in_span_image (U.basis · g i) (span_of (U.basis · g i)).basis (ordered_product (λ i. g (w i)) k) (span_of-spanned (U.basis · g i)))))))
    where
      cons : ℕ → (ℕ → ℕ) → ℕ → ℕ
      cons i w zero = i
      cons i w (suc j) = w j

      bounded : (i : ℕ) → i < s → (w : ℕ → ℕ) → ((j : ℕ) → j < k → w j < s) → (j : ℕ) → j < suc k → cons i w j < s
      bounded i l w b zero x = l
      bounded i l w b (suc j) x = b j (omega arith)

      word : (i : ℕ) → i < s → (w : ℕ → ℕ) → ((j : ℕ) → j < k → w j < s) → U.basis · g i · ordered_product (λ i. g (w i)) k ≡ zeros q U.size n
      word i l w b =
          mul_assoc_mat U.basis (g i) (ordered_product (λ i. g (w i)) k)
          ∙ ap (λ z. U.basis · z) (sym (ordered_product-first (λ j. g (cons i w j)) k)) ∙ h (cons i w) (bounded i l w b)

  -- Where all products of k members vanish, so do all products of k combinations.
  pub products_vanish : (k : ℕ) → ((w : ℕ → ℕ) → ((i : ℕ) → i < k → w i < s) → ordered_product (λ i. g (w i)) k ≡ zeros q n n)
      → (h : ℕ → Mat q n n) → ((i : ℕ) → i < k → IsCombination s g (h i)) → ordered_product h k ≡ zeros q n n
  products_vanish k z h c =
      let none = vanish_from k (whole q n) (λ w b. ap (λ x. (whole q n).basis · x) (z w b) ∙ mul_zeros _) in
      let t = products_in s g h k c in
      sym t.is ∙ ap (λ x. t.by · x) none ∙ mul_zeros t.by

  -- The k-th image of all rows is zero exactly where all products of k members vanish.
  pub images_vanish : (k : ℕ) → ((w : ℕ → ℕ) → ((i : ℕ) → i < k → w i < s) → ordered_product (λ i. g (w i)) k ≡ zeros q n n) → (images s g (whole q n) k).basis ≡ zeros q (images s g (whole q n) k).size n
  images_vanish k z = vanish_from k (whole q n) (λ w b. ap (λ x. (whole q n).basis · x) (z w b) ∙ mul_zeros _)

  pub vanishing_images : (k : ℕ) → (images s g (whole q n) k).basis ≡ zeros q (images s g (whole q n) k).size n
      → (h : ℕ → Mat q n n) → ((i : ℕ) → i < k → IsCombination s g (h i)) → ordered_product h k ≡ zeros q n n
  vanishing_images k z h c = let t = products_in s g h k c in sym t.is ∙ ap (λ x. t.by · x) z ∙ mul_zeros t.by
