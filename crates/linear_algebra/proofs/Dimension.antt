-- Consequences of the size theorem: the rank is unique, one-sided inverses of square matrices are two-sided, rank and nullity,
-- complements, inclusions of subspaces, dependence.
use Rattle.std.proofs.Common.{ℕ, ◌+◌, ◌≤◌, ◌≡◌, inl, inr, sym, ap, ◌∙◌, arith, le_antisymm}
use Rattle.linear_algebra.specs.Field.{Gf}
use Rattle.linear_algebra.specs.Matrix.{Mat, Row, Column, zeros, one, ◌⊞◌, ◌⊟◌, ◌·◌, transpose, stack, beside}
use Rattle.linear_algebra.specs.Rank.{IsInSpan, RankFactorisation, Complement}
unfoldable pub use Rattle.linear_algebra.specs.Ranks.{rank}
use Rattle.linear_algebra.proofs.MatrixLaws.{zeros_add, mul_one_mat, add_zeros, mul_add_mat, mul_assoc_mat, sub_eq_zeros, sub_add_mat, mul_zeros, zeros_mul, add_comm_mat, transpose_mul, transpose_one}
use Rattle.linear_algebra.proofs.Blocks.{one_blocks}
use Rattle.linear_algebra.proofs.Products.{products, sums, blocks, pull}
use Rattle.linear_algebra.proofs.RankExists.{rank_factorisation}
use Rattle.linear_algebra.proofs.Solving.{into_zeros, kernel_rows, kernel_rows_kill, left_f, f_right, span_test, f_span_test, seen_or_zeros}
use Rattle.linear_algebra.proofs.Steinitz.{steinitz}

-- A one-sided inverse of a square matrix is two-sided.
module _ {q : Gf} {n : ℕ} (P U : Mat q n n) (e : P · U ≡ one q n) where
  defect : Mat q n n
  defect = one q n ⊟ U · P

  P_defect : P · defect ≡ zeros q n n
  unfolding defect
  P_defect = simp (products, pull P U e, sums)

  -- a row v with v · defect · u = 1 would give a matrix of n + 1 rows and n columns with a right inverse
  too_many : (v : Row q n) (u : Column q n) → v · (defect · u) ≡ one q 1 → ⊥
  too_many v u d =
      let larger : stack P (v ⊟ v · (U · P)) · beside U (defect · u) ≡ one q (n + 1) = simp (blocks, products, sums, e, pull P defect P_defect, d, one_blocks) in
      let h : n + 1 ≤ n = steinitz (stack P (v ⊟ v · (U · P))) (beside U (defect · u)) larger in
      omega arith

  no_defect : defect ≡ zeros q n n
  no_defect = elim (seen_or_zeros defect) [ inl s ↦ absurd (too_many s.from s.to s.is) | inr z ↦ z ]

  pub square_inverse : U · P ≡ one q n
  unfolding defect
  square_inverse = sym (sub_eq_zeros (one q n) (U · P) no_defect)

-- The rank is unique, and bounded by the sizes.
module _ {q : Gf} {m n : ℕ} {f : Mat q m n} where
  pub rank_le : (F G : RankFactorisation f) → F.size ≤ G.size
  rank_le F G = steinitz (F.left · G.into) (G.basis · F.right) (simp (products, pull G.into G.basis G.product, f_right F, F.left_inverse))

  pub rank_unique : (F G : RankFactorisation f) → F.size ≡ G.size
  rank_unique F G = le_antisymm (rank_le F G) (rank_le G F)

  pub rank_le_rows : (F : RankFactorisation f) → F.size ≤ m
  rank_le_rows F = steinitz F.left F.into F.left_inverse

  pub rank_le_columns : (F : RankFactorisation f) → F.size ≤ n
  rank_le_columns F = steinitz F.basis F.right F.right_inverse

  pub transposed : RankFactorisation f → RankFactorisation (transpose f)
  transposed F = record {
    size = F.size;
    into = transpose F.basis;
    basis = transpose F.into;
    left = transpose F.right;
    right = transpose F.left;
    product = sym (transpose_mul F.into F.basis) ∙ ap transpose F.product;
    left_inverse = sym (transpose_mul F.basis F.right) ∙ ap transpose F.right_inverse ∙ transpose_one q F.size;
    right_inverse = sym (transpose_mul F.left F.into) ∙ ap transpose F.left_inverse ∙ transpose_one q F.size;
  }

pub rank_is : {q : Gf} {m n : ℕ} {f : Mat q m n} (F : RankFactorisation f) → rank f ≡ F.size
unfolding rank
rank_is {f = f} F = rank_unique (rank_factorisation f) F

pub rank_transpose : {q : Gf} {m n : ℕ} (f : Mat q m n) → rank (transpose f) ≡ rank f
unfolding rank transposed
rank_transpose f = rank_unique (rank_factorisation (transpose f)) (transposed (rank_factorisation f))

module _ {q : Gf} {m k n : ℕ} (f : Mat q m k) (g : Mat q k n) where
  pub rank_product_left : (F : RankFactorisation (f · g)) (G : RankFactorisation f) → F.size ≤ G.size
  rank_product_left F G =
      steinitz (F.left · G.into) (G.basis · (g · F.right))
      (simp (products, pull G.into G.basis G.product) (ap (λ z. F.left · z) (sym (mul_assoc_mat f g F.right) ∙ f_right F) ∙ F.left_inverse))

  pub rank_product_right : (F : RankFactorisation (f · g)) (G : RankFactorisation g) → F.size ≤ G.size
  rank_product_right F G =
      steinitz (F.left · (f · G.into)) (G.basis · F.right)
      (simp (products, pull G.into G.basis G.product) (ap (λ z. F.left · z) (sym (mul_assoc_mat f g F.right) ∙ f_right F) ∙ F.left_inverse))

-- A factorisation of an idempotent: the two factors the other way round give the unit matrix.
module _ {q : Gf} {n : ℕ} {e : Mat q n n} (twice : e · e ≡ e) (F : RankFactorisation e) where
  pub idempotent_splits : F.basis · F.into ≡ one q F.size
  idempotent_splits =
      let long : F.left · (e · (e · F.right)) ≡ F.basis · F.into = ap (λ z. F.left · (e · z)) (f_right F) ∙ sym (mul_assoc_mat F.left e F.into) ∙ ap (λ z. z · F.into) (left_f F) in
      let short : F.left · (e · (e · F.right)) ≡ one q F.size = ap (λ z. F.left · z) (pull e e twice F.right ∙ f_right F) ∙ F.left_inverse in
      sym long ∙ short

-- Kernel and cokernel.
module _ {q : Gf} {m n : ℕ} (f : Mat q m n) (F : RankFactorisation f) where
  kernel_twice : kernel_rows F · kernel_rows F ≡ kernel_rows F
  unfolding kernel_rows
  kernel_twice = simp (products, pull F.left F.into F.left_inverse, sums)

  test_twice : span_test F · span_test F ≡ span_test F
  unfolding span_test
  test_twice = simp (products, pull F.basis F.right F.right_inverse, sums)

  left_kernel : F.left · kernel_rows F ≡ zeros q F.size m
  unfolding kernel_rows
  left_kernel = simp (products, pull F.left F.into F.left_inverse, sums)

  kernel_into_zeros : kernel_rows F · F.into ≡ zeros q m F.size
  unfolding kernel_rows
  kernel_into_zeros = simp (products, F.left_inverse, sums)

  test_right : span_test F · F.right ≡ zeros q n F.size
  unfolding span_test
  test_right = simp (products, F.right_inverse, sums)

  basis_test : F.basis · span_test F ≡ zeros q F.size n
  unfolding span_test
  basis_test = simp (products, pull F.basis F.right F.right_inverse, sums)

  kernel_sum : kernel_rows F ⊞ F.into · F.left ≡ one q m
  unfolding kernel_rows
  kernel_sum = sub_add_mat (one q m) (F.into · F.left)

  test_sum : span_test F ⊞ F.right · F.basis ≡ one q n
  unfolding span_test
  test_sum = sub_add_mat (one q n) (F.right · F.basis)

  module _ (G : RankFactorisation (kernel_rows F)) (H : RankFactorisation (span_test F)) where
    kernel_kills_f : G.basis · f ≡ zeros q G.size n
    kernel_kills_f = ap (λ z. z · f) (sym (left_f G)) ∙ mul_assoc_mat G.left (kernel_rows F) f ∙ ap (λ z. G.left · z) (kernel_rows_kill F) ∙ mul_zeros G.left

    left_G : F.left · G.into ≡ zeros q F.size G.size
    left_G = ap (λ z. F.left · z) (sym (f_right G)) ∙ pull F.left (kernel_rows F) left_kernel G.right ∙ zeros_mul G.right

    G_into : G.basis · F.into ≡ zeros q G.size F.size
    G_into = ap (λ z. z · F.into) (sym (left_f G)) ∙ mul_assoc_mat G.left (kernel_rows F) F.into ∙ ap (λ z. G.left · z) kernel_into_zeros ∙ mul_zeros G.left

    f_H : f · H.into ≡ zeros q m H.size
    f_H = ap (λ z. f · z) (sym (f_right H)) ∙ pull f (span_test F) (f_span_test F) H.right ∙ zeros_mul H.right

    H_right : H.basis · F.right ≡ zeros q H.size F.size
    H_right = ap (λ z. z · F.right) (sym (left_f H)) ∙ mul_assoc_mat H.left (span_test F) F.right ∙ ap (λ z. H.left · z) test_right ∙ mul_zeros H.left

    basis_H : F.basis · H.into ≡ zeros q F.size H.size
    basis_H = ap (λ z. F.basis · z) (sym (f_right H)) ∙ pull F.basis (span_test F) basis_test H.right ∙ zeros_mul H.right

    G_sum : G.into · G.basis ⊞ F.into · F.left ≡ one q m
    G_sum = ap (λ z. z ⊞ F.into · F.left) G.product ∙ kernel_sum

    H_sum : H.into · H.basis ⊞ F.right · F.basis ≡ one q n
    H_sum = ap (λ z. z ⊞ F.right · F.basis) H.product ∙ test_sum

    nullity_at_most : G.size + F.size ≤ m
    nullity_at_most = steinitz (stack G.basis F.left) (beside G.into F.into) (simp (blocks, idempotent_splits kernel_twice G, G_into, left_G, F.left_inverse, one_blocks))

    nullity_at_least : m ≤ G.size + F.size
    nullity_at_least = steinitz (beside G.into F.into) (stack G.basis F.left) (simp (blocks, G_sum))

    corank_at_most : F.size + H.size ≤ n
    corank_at_most = steinitz (stack F.basis H.basis) (beside F.right H.into) (simp (blocks, idempotent_splits test_twice H, H_right, basis_H, F.right_inverse, one_blocks))

    corank_at_least : n ≤ F.size + H.size
    corank_at_least = steinitz (beside F.right H.into) (stack F.basis H.basis) (simp (blocks, add_comm_mat (F.right · F.basis) (H.into · H.basis), H_sum))

    completed : Complement f
    completed = record {
      rank = F;
      nullity = G.size;
      kernel = G.basis;
      retraction = G.into;
      kernel_kills = kernel_kills_f;
      kernel_retracts = idempotent_splits kernel_twice G;
      rows_split = G_sum;
      left_retracts = left_G;
      kernel_into = G_into;
      rank_nullity = le_antisymm nullity_at_most nullity_at_least;
      corank = H.size;
      cokernel = H.into;
      section = H.basis;
      cokernel_kills = f_H;
      section_splits = idempotent_splits test_twice H;
      columns_split = H_sum;
      section_right = H_right;
      basis_cokernel = basis_H;
      rank_corank = le_antisymm corank_at_most corank_at_least;
    }

pub complement : {q : Gf} {m n : ℕ} (f : Mat q m n) → Complement f
complement f =
    let F = rank_factorisation f in
    completed f F (rank_factorisation (kernel_rows F)) (rank_factorisation (span_test F))

-- The kernel rows span all rows that f takes to zero; a row that the cokernel takes to zero is in the span of f.
module _ {q : Gf} {m n k : ℕ} (f : Mat q m n) (C : Complement f) where
  pub kernel_spans : (x : Mat q k m) → x · f ≡ zeros q k n → IsInSpan C.kernel x
  kernel_spans x e = record {
    by = x · C.retraction;
    is = mul_assoc_mat x C.retraction C.kernel
        ∙ sym (add_zeros (x · (C.retraction · C.kernel)))
        ∙ ap (λ z. x · (C.retraction · C.kernel) ⊞ z) (sym (ap (λ z. z · C.rank.left) (into_zeros C.rank x e) ∙ zeros_mul C.rank.left) ∙ mul_assoc_mat x C.rank.into C.rank.left)
        ∙ sym (mul_add_mat x (C.retraction · C.kernel) (C.rank.into · C.rank.left)) ∙ ap (λ z. x · z) C.rows_split ∙ mul_one_mat x;
  }

  pub cokernel_spans : (x : Mat q k n) → x · C.cokernel ≡ zeros q k C.corank → IsInSpan f x
  cokernel_spans x e = record {
    by = x · (C.rank.right · C.rank.left);
    is = simp (products, left_f C.rank)
        (sym (zeros_add (x · (C.rank.right · C.rank.basis)))
        ∙ ap (λ z. z ⊞ x · (C.rank.right · C.rank.basis)) (sym (ap (λ z. z · C.section) e ∙ zeros_mul C.section) ∙ mul_assoc_mat x C.cokernel C.section)
        ∙ sym (mul_add_mat x (C.cokernel · C.section) (C.rank.right · C.rank.basis)) ∙ ap (λ z. x · z) C.columns_split ∙ mul_one_mat x);
  }
