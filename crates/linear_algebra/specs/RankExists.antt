-- Each matrix has a rank factorisation: the one existence theorem of linear algebra that the others follow from.
use Rattle.std.proofs.Common.{ℕ, zero, suc, ◌+◌, ◌≡◌, ◌⊎◌, inl, inr, sym, ap, ◌∙◌, arith, subst}
use Rattle.linear_algebra.specs.Field.{Gf}
use Rattle.linear_algebra.specs.Matrix.{Mat, Row, Column, zeros, one, ◌⊞◌, negative, ◌⊟◌, ◌·◌, stack, beside}
use Rattle.linear_algebra.specs.Parts.{unit_column, upper, lower}
use Rattle.linear_algebra.specs.Rank.{RankFactorisation, HasInverse}
use Rattle.linear_algebra.specs.MatrixLaws.{mul_assoc_mat, one_mul_mat, zeros_add}
use Rattle.linear_algebra.specs.Blocks.{no_rows, one_blocks}
use Rattle.linear_algebra.specs.PartsLaws.{stack_parts, mul_unit_column, column-at, invertible_1}
use Rattle.linear_algebra.specs.Products.{products, sums, blocks, pull}
use Rattle.linear_algebra.specs.Search.{HasEntry, entry_or_zeros}

-- No rows.
empty : {q : Gf} {n : ℕ} (f : Mat q 0 n) → RankFactorisation f
empty {q} {n} f = record {
  size = 0;
  into = zeros q 0 0;
  basis = zeros q 0 n;
  left = zeros q 0 0;
  right = zeros q n 0;
  product = no_rows _ _;
  left_inverse = no_rows _ _;
  right_inverse = no_rows _ _;
}

module _ {q : Gf} {m n : ℕ} {f : Mat q m n} (F : RankFactorisation f) (x : Row q n) where
  -- what is left of a row x beyond the span of the rows so far
  unfoldable pub rest : Row q n
  rest = x ⊟ x · F.right · F.basis

  rest_right : rest · F.right ≡ zeros q 1 F.size
  unfolding rest
  rest_right = simp (products, sums, F.right_inverse)

  rest_sum : rest ⊞ x · (F.right · F.basis) ≡ x
  unfolding rest
  rest_sum = simp (products, sums)

  -- A row in the span of the rows so far.
  inside : rest ≡ zeros q 1 n → RankFactorisation (stack x f)
  inside e = record {
    size = F.size;
    into = stack (x · F.right) F.into;
    basis = F.basis;
    left = beside (zeros q F.size 1) F.left;
    right = F.right;
    product = simp (blocks, products, F.product) (ap (λ z. stack z f) (sym (zeros_add (x · (F.right · F.basis))) ∙ ap (λ z. z ⊞ x · (F.right · F.basis)) (sym e) ∙ rest_sum));
    left_inverse = simp (blocks, products, F.left_inverse);
    right_inverse = F.right_inverse;
  }

  -- A row beyond that span: it is not zero at a column u, and b is the inverse of its value there.
  module _ (u : Column q n) (b : Mat q 1 1) (over : rest · u · b ≡ one q 1) (under : b · (rest · u) ≡ one q 1) where
    unfoldable pub new_column : Column q n
    new_column = u ⊟ F.right · F.basis · u

    new_one : b · (rest · new_column) ≡ one q 1
    unfolding new_column
    new_one = simp (products, pull rest F.right rest_right, under)

    old_zero : F.basis · new_column ≡ zeros q F.size 1
    unfolding new_column
    old_zero = simp (products, sums, pull F.basis F.right F.right_inverse)

    over_rest : rest · (u · (b · rest)) ≡ rest
    over_rest = sym (mul_assoc_mat rest u (b · rest)) ∙ sym (mul_assoc_mat (rest · u) b rest) ∙ ap (λ z. z · rest) over ∙ one_mul_mat rest

    outside : RankFactorisation (stack x f)
    outside = record {
      size = 1 + F.size;
      into = stack (beside (rest · u) (x · F.right)) (beside (zeros q m 1) F.into);
      basis = stack (b · rest) F.basis;
      left = stack (beside b (negative (b · (x · (F.right · F.left))))) (beside (zeros q F.size 1) F.left);
      right = beside new_column F.right;
      product = simp (blocks, products, F.product, over_rest, rest_sum);
      left_inverse = simp (blocks, products, sums, F.left_inverse, under, one_blocks);
      right_inverse = simp (blocks, products, new_one, old_zero, rest_right, F.right_inverse, one_blocks);
    }

  -- A row on top.
  on_top : RankFactorisation (stack x f)
  on_top = go (entry_or_zeros rest)
    where
      found : (h : HasEntry rest) → HasInverse (rest · unit_column q n h.place) → RankFactorisation (stack x f)
      found h i = outside (unit_column q n h.place) i.inverse i.right i.left

      go : HasEntry rest ⊎ (rest ≡ zeros q 1 n) → RankFactorisation (stack x f)
      go (inl h) =
          let first : h.line ≡ 0 = omega (arith, h.line_below) in
          let value : (rest · unit_column q n h.place).at 0 0 ≡ rest.at h.line h.place =
          ap (λ (z : Mat q 1 1). z.at 0 0) (mul_unit_column rest h.place) ∙ column-at h.place rest 0 ∙ ap (λ i. rest.at i h.place) (sym first) in
          found h (invertible_1 (rest · unit_column q n h.place) (λ e. h.nonzero (sym value ∙ e)))
      go (inr e) = inside e

one_more : {q : Gf} {m n : ℕ} → ((f : Mat q m n) → RankFactorisation f) → (f : Mat q (1 + m) n) → RankFactorisation f
one_more {q} {m} before f = subst RankFactorisation (stack_parts 1 m f) (on_top (before (lower 1 m f)) (upper 1 m f))

of_height : {q : Gf} (m : ℕ) {n : ℕ} (f : Mat q m n) → RankFactorisation f
of_height zero f = empty f
of_height {q} (suc m) {n} f =
    let same : 1 + m ≡ suc m = omega arith in
    subst (λ k. (f : Mat q k n) → RankFactorisation f) same (one_more (of_height m)) f

pub rank_factorisation : {q : Gf} {m n : ℕ} (f : Mat q m n) → RankFactorisation f
rank_factorisation {q} {m} f = of_height m f
