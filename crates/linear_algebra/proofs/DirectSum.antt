-- The laws of direct sums of matrices.
use Rattle.std.proofs.Common.{ℕ, zero, suc, ◌+◌, ◌-◌, ◌<◌, ◌≤◌, ◌≡◌, inl, inr, sym, ap, ap₂, ◌∙◌, arith}
use Rattle.std.proofs.lemmas.Bool.{cases_lt}
use mathlib.Core.Path.{fun_ext}
use Rattle.linear_algebra.specs.Field.{Gf}
use Rattle.linear_algebra.specs.Matrix.{Mat, zeros, one, ◌⊞◌, ◌⊙◌, ◌·◌, transpose, stack, beside, join}
use Rattle.linear_algebra.specs.BlockFamilies.{total}
use Rattle.linear_algebra.specs.DirectSum.{diagonal, diagonal_all}
use Rattle.linear_algebra.specs.Rank.{HasInverse}
use Rattle.linear_algebra.proofs.MatrixLaws.{transpose_zeros, scale_zeros}
use Rattle.linear_algebra.proofs.Blocks.{one_blocks, stack_scale, beside_scale, transpose_stack, transpose_beside, stack_of_besides, no_rows, join_assoc, join_cases, join-first, join-second, stack_zeros, beside_zeros}
use Rattle.linear_algebra.proofs.Products.{products, blocks}

module _ {q : Gf} {m n k l : ℕ} where
  pub diagonal_sum : (a c : Mat q m n) (b d : Mat q k l) → diagonal a b ⊞ diagonal c d ≡ diagonal (a ⊞ c) (b ⊞ d)
  unfolding diagonal
  diagonal_sum a c b d = simp (blocks, products)

  pub diagonal_scale : (c : ℕ) (a : Mat q m n) (b : Mat q k l) → c ⊙ diagonal a b ≡ diagonal (c ⊙ a) (c ⊙ b)
  unfolding diagonal
  diagonal_scale c a b = simp (stack_scale, beside_scale, scale_zeros)

  pub transpose_diagonal : (a : Mat q m n) (b : Mat q k l) → transpose (diagonal a b) ≡ diagonal (transpose a) (transpose b)
  unfolding diagonal
  transpose_diagonal a b = simp (transpose_stack, transpose_beside, transpose_zeros) (sym (stack_of_besides (transpose a) (zeros q n k) (zeros q l m) (transpose b)))

  -- the injections and projections of the two parts
  pub first_diagonal : (a : Mat q m n) (b : Mat q k l) → beside (one q m) (zeros q m k) · diagonal a b ≡ a · beside (one q n) (zeros q n l)
  unfolding diagonal
  first_diagonal a b = simp (blocks, products)

  pub second_diagonal : (a : Mat q m n) (b : Mat q k l) → beside (zeros q k m) (one q k) · diagonal a b ≡ b · beside (zeros q l n) (one q l)
  unfolding diagonal
  second_diagonal a b = simp (blocks, products)

  pub diagonal_first : (a : Mat q m n) (b : Mat q k l) → diagonal a b · stack (one q n) (zeros q l n) ≡ stack (one q m) (zeros q k m) · a
  unfolding diagonal
  diagonal_first a b = simp (blocks, products)

  pub diagonal_second : (a : Mat q m n) (b : Mat q k l) → diagonal a b · stack (zeros q n l) (one q l) ≡ stack (zeros q m k) (one q k) · b
  unfolding diagonal
  diagonal_second a b = simp (blocks, products)

pub diagonal_product : {q : Gf} {m n k l u v : ℕ} (a : Mat q m n) (b : Mat q k l) (c : Mat q n u) (d : Mat q l v) → diagonal a b · diagonal c d ≡ diagonal (a · c) (b · d)
unfolding diagonal
diagonal_product a b c d = simp (blocks, products)

pub diagonal_one : (q : Gf) (m n : ℕ) → diagonal (one q m) (one q n) ≡ one q (m + n)
unfolding diagonal
diagonal_one q m n = one_blocks q m n

pub diagonal_zeros : (q : Gf) (m n k l : ℕ) → diagonal (zeros q m n) (zeros q k l) ≡ zeros q (m + k) (n + l)
unfolding diagonal
diagonal_zeros q m n k l = simp (stack_zeros, beside_zeros)

pub diagonal_inverse : {q : Gf} {m n k l : ℕ} (a : Mat q m n) (b : Mat q k l) → HasInverse a → HasInverse b → HasInverse (diagonal a b)
diagonal_inverse {q} {m} {n} {k} {l} a b i j = record {
  inverse = diagonal i.inverse j.inverse;
  right = diagonal_product a b i.inverse j.inverse ∙ ap₂ diagonal i.right j.right ∙ diagonal_one q m k;
  left = diagonal_product i.inverse j.inverse a b ∙ ap₂ diagonal i.left j.left ∙ diagonal_one q n l;
}

-- Entries.
module _ {q : Gf} {m n k l : ℕ} (a : Mat q m n) (b : Mat q k l) where
  pub diagonal-upper : (i j : ℕ) → i < m → (diagonal a b).at i j ≡ join n (a.at i) (λ t. 0) j
  unfolding diagonal stack beside zeros
  diagonal-upper i j h = join-first m _ _ i h

  pub diagonal-lower : (i j : ℕ) → m ≤ i → (diagonal a b).at i j ≡ join n (λ t. 0) (b.at (i - m)) j
  unfolding diagonal stack beside zeros
  diagonal-lower i j h = join-second m _ _ i h

join_zeros : (n j : ℕ) → join n (λ t. 0) (λ t. 0) j ≡ 0
join_zeros n j = elim (join_cases n j) [ inl e ↦ e.is _ _ | inr e ↦ e.is _ _ ]

-- Three blocks in either order have the same entries.
pub diagonal_assoc-at : {q : Gf} {m n k l u v : ℕ} (a : Mat q m n) (b : Mat q k l) (c : Mat q u v) (i j : ℕ) → (diagonal (diagonal a b) c).at i j ≡ (diagonal a (diagonal b c)).at i j
diagonal_assoc-at {q} {m} {n} {k} {l} a b c i j = elim (cases_lt i m) [
  | inl x ↦
      diagonal-upper (diagonal a b) c i j (omega arith) ∙ ap (λ f. join (n + l) f (λ t. 0) j) (fun_ext (λ j. diagonal-upper a b i j x))
      ∙ join_assoc n l (a.at i) (λ t. 0) (λ t. 0) j ∙ ap (λ f. join n (a.at i) f j) (fun_ext (join_zeros l)) ∙ sym (diagonal-upper a (diagonal b c) i j x)
  | inr x ↦ elim (cases_lt i (m + k)) [
    | inl y ↦
        diagonal-upper (diagonal a b) c i j y ∙ ap (λ f. join (n + l) f (λ t. 0) j) (fun_ext (λ j. diagonal-lower a b i j x))
        ∙ join_assoc n l (λ t. 0) (b.at (i - m)) (λ t. 0) j ∙ ap (λ f. join n (λ t. 0) f j) (fun_ext (λ j. sym (diagonal-upper b c (i - m) j (omega arith))))
        ∙ sym (diagonal-lower a (diagonal b c) i j x)
    | inr y ↦
        diagonal-lower (diagonal a b) c i j y ∙ ap (λ f. join (n + l) f (c.at (i - (m + k))) j) (fun_ext (λ j. sym (join_zeros n j)))
        ∙ join_assoc n l (λ t. 0) (λ t. 0) (c.at (i - (m + k))) j
        ∙ ap (λ r. join n (λ t. 0) (join l (λ t. 0) (c.at r)) j) (omega arith)
        ∙ ap (λ f. join n (λ t. 0) f j) (fun_ext (λ j. sym (diagonal-lower b c (i - m) j (omega arith)))) ∙ sym (diagonal-lower a (diagonal b c) i j x)
  ]
]

-- Families.
pub diagonal_all_product : {q : Gf} (k : ℕ) (rows middle columns : ℕ → ℕ) (a : (v : ℕ) → Mat q (rows v) (middle v)) (b : (v : ℕ) → Mat q (middle v) (columns v)) → diagonal_all k rows middle a · diagonal_all k middle columns b ≡ diagonal_all k rows columns (λ v. a v · b v)
unfolding diagonal_all
diagonal_all_product zero rows middle columns a b = no_rows _ _
diagonal_all_product (suc k) rows middle columns a b =
    diagonal_product (diagonal_all k rows middle a) (a k) (diagonal_all k middle columns b) (b k) ∙ ap (λ z. diagonal z (a k · b k)) (diagonal_all_product k rows middle columns a b)

pub diagonal_all_one : (q : Gf) (k : ℕ) (size : ℕ → ℕ) → diagonal_all k size size (λ v. one q (size v)) ≡ one q (total k size)
unfolding diagonal_all
diagonal_all_one q zero size = no_rows _ _
diagonal_all_one q (suc k) size = ap (λ z. diagonal z (one q (size k))) (diagonal_all_one q k size) ∙ diagonal_one q (total k size) (size k)
