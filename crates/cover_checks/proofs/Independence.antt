-- Rows at a vertex are independent modulo the radical where the ranks add: that of the rows and of a basis of the radical.
use Rattle.std.proofs.Common.{ℕ, zero, ◌+◌, ◌<◌, ◌≡◌, ◌≢◌, cond, eqb, inl, inr, sym, ap, ap₂, ◌∙◌, arith, mod-eq_of_lt, eq-eqb, ne_eqb}
use Rattle.std.proofs.lemmas.Bool.{cases_eq, cond-true, cond-false}
use Rattle.linear_algebra.specs.Field.{Gf, mul}
use Rattle.linear_algebra.specs.FieldLaws.{mul_zero, mod-mul}
use Rattle.linear_algebra.specs.Sums.{sum_to, sum-single, sum-same, sum-none}
use Rattle.linear_algebra.specs.Matrix.{Mat, Row, made, zeros, negative, ◌⊞◌, ◌·◌, stack, beside}
use Rattle.linear_algebra.specs.Rank.{IsInSpan, HasRightInverse, RankFactorisation}
use Rattle.linear_algebra.specs.Ranks.{rank}
use Rattle.linear_algebra.specs.BlockFamilies.{total, stack_all, beside_all, column_block}
use Rattle.linear_algebra.proofs.MatrixLaws.{mul_assoc_mat, one_mul_mat, zeros_mul, add_negative, negative_mul}
use Rattle.linear_algebra.proofs.PartsLaws.{Row-eq, made-at, beside_first}
use Rattle.linear_algebra.proofs.Blocks.{beside_stack, beside_zeros}
use Rattle.linear_algebra.proofs.BlockFamilies.{beside_all-same, beside_all-at, beside_all-zeros, beside_blocks, beside_stack_all, sum_all-at}
use Rattle.linear_algebra.proofs.Dimension.{rank_is}
use Rattle.linear_algebra.proofs.RankExists.{rank_factorisation}
use Rattle.linear_algebra.proofs.Ranks.{rank_right_inverse}
use Rattle.linear_algebra.proofs.Inverses.{left_inverse_square}
use Rattle.linear_algebra.proofs.Solving.{right_inverse_injective}
use Rattle.linear_algebra.proofs.Subspaces.{independent_sum}
use Rattle.representations.specs.Quiver.{Quiver}
use Rattle.representations.specs.Rep.{Rep}
use Rattle.representations.specs.Radical.{IsInRadical}
use Rattle.representations.specs.RadicalModule.{arrow_rows}
use Rattle.representations.proofs.RadicalModule.{radical_in_span, span_in_radical}
use Rattle.linear_algebra.proofs.Solving.{in_span_trans}
use Rattle.projectives.specs.Generators.{count_at, rows_at}
use Rattle.projectives.proofs.Generators.{rows_at-elsewhere}

-- A matrix whose rank is the number of its rows is undone on the right.
pub rows_independent : {q : Gf} {m n : ℕ} (f : Mat q m n) → rank f ≡ m → HasRightInverse f
rows_independent {q} {m} {n} f e = go (rank_factorisation f)
  where
    go : RankFactorisation f → HasRightInverse f
    go F =
        let same : m ≡ F.size = sym e ∙ rank_is F in
        let i = left_inverse_square F.into same (record { inverse = F.left; is = F.left_inverse }) in
        record {
          inverse = F.right · i.inverse;
          is = ap (λ z. z · (F.right · i.inverse)) (sym F.product) ∙ mul_assoc_mat F.into F.basis (F.right · i.inverse)
              ∙ ap (λ z. F.into · z) (sym (mul_assoc_mat F.basis F.right i.inverse) ∙ ap (λ z. z · i.inverse) F.right_inverse) ∙ ap (λ z. F.into · z) (one_mul_mat i.inverse) ∙ i.right;
        }

module _ {q : Gf} {Q : Quiver} (X : Rep q Q) (k : ℕ) (v : ℕ → ℕ) (x : (j : ℕ) → Row q (X.dim (v j))) (w : ℕ) where
  abbrev pub all_rows : Mat q k (X.dim w)
  all_rows = rows_at X k v x w

  -- those at w, one over the other
  abbrev pub size : ℕ → ℕ
  size j = cond (eqb (v j) w) 1 zero

  pub size_here : (j : ℕ) → v j ≡ w → size j ≡ 1
  size_here j e = cond-true (eqb (v j) w) 1 zero (eq-eqb (v j) w e)

  pub size_elsewhere : (j : ℕ) → v j ≢ w → size j ≡ 0
  size_elsewhere j d = cond-false (eqb (v j) w) 1 zero (ne_eqb (v j) w d)

  abbrev pub block : (j : ℕ) → Mat q (size j) (X.dim w)
  block j = made q (size j) (X.dim w) (λ i c. all_rows.at j c)

  abbrev pub rows_here : Mat q (count_at k v w) (X.dim w)
  rows_here = stack_all k size block

  abbrev part : Row q k → (j : ℕ) → Row q (size j)
  part c j = made q 1 (size j) (λ i t. c.at 0 j)

  abbrev coefficients_here : Row q k → Row q (count_at k v w)
  coefficients_here c = beside_all k size (part c)

  part-at : (c : Row q k) (j : ℕ) → v j ≡ w → (part c j).at 0 0 ≡ c.at 0 j
  part-at c j e = let s = size_here j e in made-at q 1 (size j) (λ i t. c.at 0 j) 0 0 (omega arith) (omega arith) ∙ mod-eq_of_lt (c.fits.small 0 j)

  pub block-at : (j t : ℕ) → v j ≡ w → t < X.dim w → (block j).at 0 t ≡ all_rows.at j t
  block-at j t e l = let s = size_here j e in made-at q (size j) (X.dim w) (λ i c. all_rows.at j c) 0 t (omega arith) l ∙ mod-eq_of_lt (all_rows.fits.small j t)

  term : (c : Row q k) (j t : ℕ) → j < k → t < X.dim w → (part c j · block j).at 0 t ≡ mul q (c.at 0 j) (all_rows.at j t)
  unfolding ◌·◌
  term c j t h l = elim (cases_eq (v j) w) [
    | inl e ↦
        let s = size_here j e in
        sum-single q (size j) 0 _ (omega arith) (λ i b d. absurd (omega arith)) ∙ mod-mul q ((part c j).at 0 0) ((block j).at 0 t) ∙ ap₂ (mul q) (part-at c j e) (block-at j t e l)
    | inr d ↦
        let s = size_elsewhere j d in
        ap (λ n. sum_to q n (λ i. mul q ((part c j).at 0 i) ((block j).at i t))) s ∙ sum-none q _ ∙ sym (ap (mul q (c.at 0 j)) (rows_at-elsewhere X k v x w j t h d) ∙ mul_zero q (c.at 0 j))
  ]

  same_combination : (c : Row q k) → coefficients_here c · rows_here ≡ c · all_rows
  unfolding ◌·◌
  same_combination c = Row-eq _ _ (λ t l.
      ap (λ (z : Row q (X.dim w)). z.at 0 t) (beside_stack_all k size (part c) block) ∙ sum_all-at k (λ j. part c j · block j) 0 t ∙ sum-same q k _ _ (λ j h. term c j t h l))

  coefficient : (c : Row q k) (j : ℕ) → j < k → v j ≡ w → coefficients_here c ≡ zeros q 1 (count_at k v w) → c.at 0 j ≡ 0
  unfolding zeros
  coefficient c j h e z =
      let s = size_here j e in
      sym (part-at c j e) ∙ sym (beside_all-at size k (part c) j h 0 0 (omega arith)) ∙ ap (λ (y : Row q (count_at k v w)). y.at 0 (total j size + 0)) z

  -- each row of coefficients is of this kind
  abbrev spread : Row q (count_at k v w) → Row q k
  spread c = made q 1 k (λ i j. (column_block k size j c).at 0 0)

  spread_again : (c : Row q (count_at k v w)) → coefficients_here (spread c) ≡ c
  spread_again c = beside_all-same size k (part (spread c)) (λ j. column_block k size j c) (λ j h. Row-eq _ _ (λ t l. elim (cases_eq (v j) w) [
    | inl e ↦
        let s = size_here j e in
        let first : t ≡ 0 = omega arith in
        ap ((part (spread c) j).at 0) first ∙ part-at (spread c) j e ∙ made-at q 1 k (λ i j. (column_block k size j c).at 0 0) 0 j (omega arith) h ∙ mod-eq_of_lt ((column_block k size j c).fits.small 0 0)
        ∙ ap ((column_block k size j c).at 0) (sym first)
    | inr d ↦ let s = size_elsewhere j d in absurd (omega arith)
  ])) ∙ beside_blocks size k c

  none_here : (c : Row q k) → ((j : ℕ) → j < k → v j ≡ w → c.at 0 j ≡ 0) → coefficients_here c ≡ zeros q 1 (count_at k v w)
  unfolding zeros
  none_here c h = beside_all-same size k (part c) (λ j. zeros q 1 (size j)) (λ j l. Row-eq _ _ (λ t b. elim (cases_eq (v j) w) [
    | inl e ↦ let s = size_here j e in let first : t ≡ 0 = omega arith in ap ((part c j).at 0) first ∙ part-at c j e ∙ h j l e
    | inr d ↦ let s = size_elsewhere j d in absurd (omega arith)
  ])) ∙ beside_all-zeros size k

  -- over a basis of the radical
  module _ {r : ℕ} (b : Mat q r (X.dim w)) (independent : HasRightInverse b) (inside : IsInSpan (arrow_rows X w) b) (all : IsInSpan b (arrow_rows X w)) where
    abbrev pub Independent : Type 0
    Independent = (c : Row q k) → IsInRadical X w (c · all_rows) → (j : ℕ) → j < k → v j ≡ w → c.at 0 j ≡ zero

    pub ranks_add : Independent → rank (stack rows_here b) ≡ count_at k v w + r
    ranks_add h = rank_right_inverse (stack rows_here b) (independent_sum rows_here b (λ c d e.
        let in_radical : IsInRadical X w (spread c · all_rows) = span_in_radical (spread c · all_rows)
        (in_span_trans (arrow_rows X w) b (spread c · all_rows) inside (record { by = d; is = sym e ∙ sym (ap (λ z. z · rows_here) (spread_again c)) ∙ same_combination (spread c) })) in
        let none : c ≡ zeros q 1 (count_at k v w) = sym (spread_again c) ∙ none_here (spread c) (h (spread c) in_radical) in
        (none, right_inverse_injective b independent d (sym e ∙ ap (λ z. z · rows_here) none ∙ zeros_mul rows_here))))

    pub added_ranks : rank (stack rows_here b) ≡ count_at k v w + r → Independent
    added_ranks e c i j h s =
        let p = in_span_trans b (arrow_rows X w) (c · all_rows) all (radical_in_span i) in
        let sum : beside (coefficients_here c) (negative p.by) · stack rows_here b ≡ zeros q 1 (X.dim w) =
        beside_stack (coefficients_here c) (negative p.by) rows_here b ∙ ap₂ (λ y z. y ⊞ z) (same_combination c ∙ sym p.is) (negative_mul p.by b) ∙ add_negative (p.by · b) in
        coefficient c j h s (beside_first (coefficients_here c) (zeros q 1 (count_at k v w)) (negative p.by) (zeros q 1 r)
        (right_inverse_injective (stack rows_here b) (rows_independent (stack rows_here b) e) _ sum ∙ sym (beside_zeros q 1 (count_at k v w) r)))
