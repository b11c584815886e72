-- Subspaces of the rows of one length: inclusion, extension, sums, descending chains, dependence.
use Rattle.std.proofs.Common.{ℕ, zero, suc, ◌+◌, ◌<◌, ◌≤◌, ◌≡◌, ◌⊎◌, inl, inr, sym, ap, ap₂, ◌∙◌, arith, subst}
use Rattle.std.proofs.lemmas.Bool.{cases_eq}
use Rattle.linear_algebra.specs.Field.{Gf}
use Rattle.linear_algebra.specs.Matrix.{Mat, Row, zeros, ◌⊞◌, negative, ◌⊟◌, ◌·◌, stack, beside}
use Rattle.linear_algebra.specs.Parts.{row, unit_column, left_part, right_part}
use Rattle.linear_algebra.specs.Rank.{IsInSpan, HasRightInverse, IsSeparate, IsDependent, Subspace}
use Rattle.linear_algebra.proofs.MatrixLaws.{mul_assoc_mat, difference, sub_eq_zeros, one_mul_mat, negative_negative, negative_zeros, negative_mul}
use Rattle.linear_algebra.proofs.Blocks.{one_blocks, beside_zeros, beside_stack}
use Rattle.linear_algebra.proofs.PartsLaws.{row-mul, row_zeros, beside_parts, unit-row, unit_unit}
use Rattle.linear_algebra.proofs.Products.{products, sums, blocks, pull}
use Rattle.linear_algebra.proofs.Search.{search_or_all}
use Rattle.linear_algebra.proofs.RankExists.{rank_factorisation}
use Rattle.linear_algebra.proofs.Solving.{left_f, solve_or, in_span_by_rows, injective_right_inverse}
use Rattle.linear_algebra.proofs.Steinitz.{steinitz, through_none}
use Rattle.linear_algebra.proofs.Dimension.{square_inverse, complement, rank_le_columns}

-- A matrix has all its rows in a span, or one of them is beyond it.
pub span_or_beyond : {q : Gf} {m k n : ℕ} (f : Mat q m n) (y : Mat q k n) → IsInSpan f y ⊎ ((i : ℕ) × (i < k) × IsSeparate f (row i y))
span_or_beyond {q} {m} {k} {n} f y = go (search_or_all k (λ i. IsSeparate f (row i y)) (λ i. IsInSpan f (row i y)) (λ i. turn (solve_or f (row i y))))
  where
    turn : {A B : Type 0} → A ⊎ B → B ⊎ A
    turn (inl a) = inr a
    turn (inr b) = inl b

    go : ((i : ℕ) × (i < k) × IsSeparate f (row i y)) ⊎ ((i : ℕ) → i < k → IsInSpan f (row i y)) → IsInSpan f y ⊎ ((i : ℕ) × (i < k) × IsSeparate f (row i y))
    go (inl s) = inr s
    go (inr a) = inl (in_span_by_rows f y a)

-- Independent rows in a span are not more than the rows that span it.
pub inclusion_size : {q : Gf} {a b n : ℕ} (A : Mat q a n) (B : Mat q b n) → HasRightInverse A → IsInSpan B A → a ≤ b
inclusion_size A B i s = steinitz s.by (B · i.inverse) (sym (mul_assoc_mat s.by B i.inverse) ∙ ap (λ z. z · i.inverse) s.is ∙ i.is)

inclusion_same : {q : Gf} {a n : ℕ} (A B : Mat q a n) → HasRightInverse A → IsInSpan B A → IsInSpan A B
inclusion_same A B i s =
    let over = sym (mul_assoc_mat s.by B i.inverse) ∙ ap (λ z. z · i.inverse) s.is ∙ i.is in
    record {
      by = B · i.inverse;
      is = ap (λ z. B · i.inverse · z) (sym s.is) ∙ sym (mul_assoc_mat (B · i.inverse) s.by B) ∙ ap (λ z. z · B) (square_inverse s.by (B · i.inverse) over) ∙ one_mul_mat B;
    }

-- An inclusion of subspaces of the same dimension is an equality.
pub inclusion_equal : {q : Gf} {a b n : ℕ} (A : Mat q a n) (B : Mat q b n) → a ≡ b → HasRightInverse A → IsInSpan B A → IsInSpan A B
inclusion_equal {q} {a} {b} {n} A B e i s = subst (λ b. (B : Mat q b n) → IsInSpan B A → IsInSpan A B) e (λ B s. inclusion_same A B i s) B s

-- More independent rows have one beyond the span of fewer.
pub one_beyond : {q : Gf} {a b n : ℕ} (A : Mat q a n) (B : Mat q b n) → HasRightInverse B → a < b → (i : ℕ) × (i < b) × IsSeparate A (row i B)
one_beyond A B i h = elim (span_or_beyond A B) [ inl s ↦ absurd (let k = inclusion_size B A i s in omega arith) | inr r ↦ r ]

-- A row beyond the span of independent rows is independent of them.
pub extended : {q : Gf} {a n : ℕ} (A : Mat q a n) (x : Row q n) → HasRightInverse A → IsSeparate A x → HasRightInverse (stack x A)
extended {q} {a} A x i s = record {
  inverse = beside s.functional (i.inverse ⊟ s.functional · (x · i.inverse));
  is = simp (blocks, products, sums, s.sees, s.kills, pull x s.functional s.sees, pull A s.functional s.kills, i.is, one_blocks);
}

-- Two sets of independent rows whose spans meet in zero are independent together.
pub independent_sum : {q : Gf} {a b n : ℕ} (A : Mat q a n) (B : Mat q b n) → ((c : Row q a) (d : Row q b) → c · A ≡ d · B → (c ≡ zeros q 1 a) × (d ≡ zeros q 1 b)) → HasRightInverse (stack A B)
independent_sum {q} {a} {b} {n} A B h = injective_right_inverse (stack A B) (λ x e. whole x e)
  where
    both : (c : Row q a) (d : Row q b) → beside c d · stack A B ≡ zeros q 1 n → beside c d ≡ zeros q 1 (a + b)
    both c d e =
        let sum : c · A ⊞ d · B ≡ zeros q 1 n = sym (beside_stack c d A B) ∙ e in
        let meet : c · A ≡ negative d · B = sub_eq_zeros (c · A) (negative d · B) (simp (difference, negative_mul, negative_negative) sum) in
        let z = h c (negative d) meet in
        let second : d ≡ zeros q 1 b = sym (negative_negative d) ∙ ap negative z.1 ∙ negative_zeros in
        ap₂ beside z.0 second ∙ beside_zeros q 1 a b

    whole : (x : Row q (a + b)) → x · stack A B ≡ zeros q 1 n → x ≡ zeros q 1 (a + b)
    whole x e = sym (beside_parts a b x) ∙ both (left_part a b x) (right_part a b x) (ap (λ z. z · stack A B) (beside_parts a b x) ∙ e)

-- A basis of the span of f.
pub span_of : {q : Gf} {m n : ℕ} → Mat q m n → Subspace q n
span_of f = let F = rank_factorisation f in record { size = F.size; basis = F.basis; independent = record { inverse = F.right; is = F.right_inverse } }

module _ {q : Gf} {m n : ℕ} (f : Mat q m n) where
  pub span_of-spans : IsInSpan (span_of f).basis f
  unfolding span_of
  span_of-spans = let F = rank_factorisation f in record { by = F.into; is = F.product }

  pub span_of-spanned : IsInSpan f (span_of f).basis
  unfolding span_of
  span_of-spanned = let F = rank_factorisation f in record { by = F.left; is = left_f F }

pub subspace_size : {q : Gf} {n : ℕ} (U : Subspace q n) → U.size ≤ n
subspace_size U = steinitz U.basis U.independent.inverse U.independent.is

pub through_zero : {q : Gf} {m k n : ℕ} (a : Mat q m k) (b : Mat q k n) → k ≡ 0 → a · b ≡ zeros q m n
through_zero {q} {m} {k} {n} a b e = subst (λ k. (a : Mat q m k) (b : Mat q k n) → a · b ≡ zeros q m n) (sym e) through_none a b

-- In a subspace of dimension zero there is only zero.
pub in_zero_subspace : {q : Gf} {k n : ℕ} (U : Subspace q n) (y : Mat q k n) → U.size ≡ 0 → IsInSpan U.basis y → y ≡ zeros q k n
in_zero_subspace U y e s = sym s.is ∙ through_zero s.by U.basis e

-- A descending chain of subspaces of rows of length d is zero at place d, or does not change at some place before.
pub record IsStill {q : Gf} {n : ℕ} (U : ℕ → Subspace q n) (d : ℕ) : Type 0 where
  pub place : ℕ
  pub place_below : place < d
  pub same_size : (U place).size ≡ (U (suc place)).size
  pub back : IsInSpan (U (suc place)).basis (U place).basis

module _ {q : Gf} {n : ℕ} (U : ℕ → Subspace q n) (down : (i : ℕ) → IsInSpan (U i).basis (U (suc i)).basis) where
  still_at : (k d : ℕ) → k < d → (U k).size ≡ (U (suc k)).size → IsStill U d
  still_at k d h e = record {
    place = k;
    place_below = h;
    same_size = e;
    back = inclusion_equal (U (suc k)).basis (U k).basis (sym e) (U (suc k)).independent (down k);
  }

  shrinks : (k : ℕ) → IsStill U k ⊎ ((U k).size + k ≤ n)
  shrinks zero = let h = subspace_size (U 0) in inr (omega arith)
  shrinks (suc k) = go (shrinks k) (cases_eq (U k).size (U (suc k)).size) (inclusion_size (U (suc k)).basis (U k).basis (U (suc k)).independent (down k))
    where
      go : IsStill U k ⊎ ((U k).size + k ≤ n) → ((U k).size ≡ (U (suc k)).size) ⊎ ((U k).size ≡ (U (suc k)).size → ⊥) → (U (suc k)).size ≤ (U k).size → IsStill U (suc k) ⊎ ((U (suc k)).size + suc k ≤ n)
      go (inl s) c l = inl (record { place = s.place; place_below = omega (arith, s.place_below); same_size = s.same_size; back = s.back })
      go (inr b) (inl e) l = inl (still_at k (suc k) (omega arith) e)
      go (inr b) (inr e) l = inr (omega arith)

  pub descending_chain : IsStill U n ⊎ ((U n).size ≡ 0)
  descending_chain = elim (shrinks n) [ inl s ↦ inl s | inr b ↦ inr (omega arith) ]

-- More rows than columns are linearly dependent.
pub dependent : {q : Gf} {m n : ℕ} (f : Mat q m n) → n < m → IsDependent f
dependent {q} {m} {n} f h =
    let C = complement f in
    let r = rank_le_columns C.rank in
    let some : 0 < C.nullity = omega (arith, C.rank_nullity) in
    record {
      combination = row 0 C.kernel;
      kills = sym (row-mul 0 C.kernel f) ∙ ap (row 0) C.kernel_kills ∙ row_zeros q C.nullity n 0;
      functional = C.retraction · unit_column q C.nullity 0;
      sees = sym (mul_assoc_mat (row 0 C.kernel) C.retraction (unit_column q C.nullity 0))
          ∙ ap (λ z. z · unit_column q C.nullity 0) (sym (row-mul 0 C.kernel C.retraction) ∙ ap (row 0) C.kernel_retracts ∙ sym (unit-row q C.nullity 0))
          ∙ unit_unit q C.nullity 0 some;
    }
