-- Fitting's lemma for a square matrix x of size d: from the exponent d on its powers have one row space and one column space; each row is
-- a sum of one that the power takes to zero and one in its image, and the two spaces meet in zero. (Assem, Simson, Skowroński, volume 1,
-- chapter I, section 4.)
use Rattle.std.proofs.Common.{ℕ, zero, suc, ◌+◌, ◌-◌, ◌≤◌, ◌≡◌, ◌⊎◌, inl, inr, sym, ap, ◌∙◌, arith, subst}
use Rattle.linear_algebra.specs.Field.{Gf}
use Rattle.linear_algebra.specs.Matrix.{Mat, Row, zeros, ◌⊟◌, ◌·◌, transpose, stack}
use Rattle.linear_algebra.specs.Rank.{IsInSpan, IsInColumnSpan, HasInverse, Complement}
use Rattle.linear_algebra.specs.Powers.{mat_power, IsNilpotent, FittingParts}
use Rattle.linear_algebra.proofs.MatrixLaws.{mul_assoc_mat, sub_add_mat, mul_zeros, zeros_mul, transpose_mul, transpose_transpose}
use Rattle.linear_algebra.proofs.Products.{products, sums}
use Rattle.linear_algebra.proofs.Solving.{left_f, in_span_self, in_span_trans, in_span_image, right_inverse_injective}
use Rattle.linear_algebra.proofs.Inverses.{mat_power-suc, mat_power-add, mat_power_past, transpose_power, right_inverse_square}
use Rattle.linear_algebra.proofs.Subspaces.{span_of, span_of-spans, span_of-spanned, in_zero_subspace, IsStill, descending_chain, independent_sum}

module _ {q : Gf} {d : ℕ} (x : Mat q d d) where
  powers_descend : (i : ℕ) → IsInSpan (mat_power x i) (mat_power x (suc i))
  powers_descend i = record { by = x; is = sym (mat_power-suc x i) }

  chain_descends : (i : ℕ) → IsInSpan (span_of (mat_power x i)).basis (span_of (mat_power x (suc i))).basis
  chain_descends i =
      in_span_trans _ (mat_power x i) _ (span_of-spans (mat_power x i))
      (in_span_trans (mat_power x i) (mat_power x (suc i)) _ (powers_descend i) (span_of-spanned (mat_power x (suc i))))

  -- where the row space does not change at one step it does not change at any later step
  settled_step : (k : ℕ) → IsInSpan (mat_power x (suc k)) (mat_power x k) → (j : ℕ) → IsInSpan (mat_power x (k + j)) (mat_power x k)
  settled_step k s zero = let same : k + 0 ≡ k = omega arith in subst (λ i. IsInSpan (mat_power x i) (mat_power x k)) (sym same) (in_span_self (mat_power x k))
  settled_step k s (suc j) =
      let image = in_span_image (mat_power x (suc k)) (mat_power x k) (mat_power x j) s in
      let same : suc k + j ≡ k + suc j = omega arith in
      let step : IsInSpan (mat_power x (k + suc j)) (mat_power x (k + j)) =
      record { by = image.by; is = ap (λ z. image.by · z) (ap (mat_power x) (sym same) ∙ mat_power-add x (suc k) j) ∙ image.is ∙ sym (mat_power-add x k j) } in
      in_span_trans (mat_power x (k + suc j)) (mat_power x (k + j)) (mat_power x k) step (settled_step k s j)

  later : (k e j : ℕ) → IsInSpan (mat_power x (k + j)) (mat_power x k) → IsInSpan (mat_power x (k + e + j)) (mat_power x (k + e))
  later k e j s =
      let image = in_span_image (mat_power x (k + j)) (mat_power x k) (mat_power x e) s in
      let same : k + j + e ≡ k + e + j = omega arith in
      record { by = image.by; is = ap (λ z. image.by · z) (ap (mat_power x) (sym same) ∙ mat_power-add x (k + j) e) ∙ image.is ∙ sym (mat_power-add x k e) }

  -- From d on, the rows of a power are combinations of the rows of each later power.
  pub powers_settle : (e j : ℕ) → d ≤ e → IsInSpan (mat_power x (e + j)) (mat_power x e)
  powers_settle e j h = go (descending_chain (λ i. span_of (mat_power x i)) chain_descends)
    where
      from_place : (k : ℕ) → k ≤ e → IsInSpan (mat_power x (suc k)) (mat_power x k) → IsInSpan (mat_power x (e + j)) (mat_power x e)
      from_place k l s =
          let same : k + (e - k) ≡ e = omega arith in
          subst (λ i. IsInSpan (mat_power x (i + j)) (mat_power x i)) same (later k (e - k) j (settled_step k s j))

      go : IsStill (λ i. span_of (mat_power x i)) d ⊎ ((span_of (mat_power x d)).size ≡ 0) → IsInSpan (mat_power x (e + j)) (mat_power x e)
      go (inl s) =
          from_place s.place (omega (arith, s.place_below))
          (in_span_trans _ (span_of (mat_power x (suc s.place))).basis _ (span_of-spanned (mat_power x (suc s.place)))
          (in_span_trans _ (span_of (mat_power x s.place)).basis _ s.back (span_of-spans (mat_power x s.place))))
      go (inr z) =
          let vanishes = in_zero_subspace (span_of (mat_power x d)) (mat_power x d) z (span_of-spans (mat_power x d)) in
          record { by = zeros q d d; is = zeros_mul (mat_power x (e + j)) ∙ sym (mat_power_past x d e h vanishes) }

-- The same for columns.
pub powers_settle_columns : {q : Gf} {d : ℕ} (x : Mat q d d) (e j : ℕ) → d ≤ e → IsInColumnSpan (mat_power x (e + j)) (mat_power x e)
powers_settle_columns x e j h =
    let s = powers_settle (transpose x) e j h in
    record {
      by = transpose s.by;
      is = ap (λ z. z · transpose s.by) (sym (transpose_transpose (mat_power x (e + j))) ∙ ap transpose (transpose_power x (e + j)))
          ∙ sym (transpose_mul s.by (mat_power (transpose x) (e + j))) ∙ ap transpose (s.is ∙ sym (transpose_power x e)) ∙ transpose_transpose (mat_power x e);
    }

module _ {q : Gf} {d : ℕ} (x : Mat q d d) (e : ℕ) (large : d ≤ e) where
  pub fitting : {k : ℕ} (y : Mat q k d) → FittingParts x e y
  fitting {k} y =
      let s = powers_settle x e e large in
      let twice : s.by · (mat_power x e · mat_power x e) ≡ mat_power x e = ap (λ z. s.by · z) (sym (mat_power-add x e e)) ∙ s.is in
      record {
        nilpotent_part = y ⊟ y · s.by · mat_power x e;
        source = y · s.by;
        sum = sub_add_mat y (y · s.by · mat_power x e);
        vanishes = simp (products, sums, twice);
      }

  -- What the square of the power takes to zero, the power takes to zero.
  pub kernel_settles : {k : ℕ} (y : Mat q k d) → y · (mat_power x e · mat_power x e) ≡ zeros q k d → y · mat_power x e ≡ zeros q k d
  kernel_settles {k} y z =
      let s = powers_settle_columns x e e large in
      ap (λ w. y · w) (sym s.is ∙ ap (λ w. w · s.by) (mat_power-add x e e)) ∙ sym (mul_assoc_mat y (mat_power x e · mat_power x e) s.by) ∙ ap (λ w. w · s.by) z ∙ zeros_mul s.by

  -- A nilpotent matrix of size d has the power d equal to zero.
  pub nilpotent_vanishes : IsNilpotent x → mat_power x e ≡ zeros q d d
  nilpotent_vanishes h =
      let s = powers_settle x e h.exponent large in
      let past : h.exponent ≤ e + h.exponent = omega arith in
      sym s.is ∙ ap (λ z. s.by · z) (mat_power_past x h.exponent (e + h.exponent) past h.vanishes) ∙ mul_zeros s.by

  module _ (C : Complement (mat_power x e)) where
    meet_zero : (c : Row q C.nullity) (b : Row q C.rank.size) → c · C.kernel ≡ b · C.rank.basis → (c ≡ zeros q 1 C.nullity) × (b ≡ zeros q 1 C.rank.size)
    meet_zero c b m =
        let image : b · C.rank.basis ≡ b · C.rank.left · mat_power x e = ap (λ z. b · z) (sym (left_f C.rank)) ∙ sym (mul_assoc_mat b C.rank.left (mat_power x e)) in
        let twice : b · C.rank.left · (mat_power x e · mat_power x e) ≡ zeros q 1 d =
        sym (mul_assoc_mat (b · C.rank.left) (mat_power x e) (mat_power x e)) ∙ ap (λ z. z · mat_power x e) (sym image ∙ sym m)
        ∙ mul_assoc_mat c C.kernel (mat_power x e) ∙ ap (λ z. c · z) C.kernel_kills ∙ mul_zeros c in
        let zero_image : b · C.rank.basis ≡ zeros q 1 d = image ∙ kernel_settles (b · C.rank.left) twice in (
          right_inverse_injective C.kernel (record { inverse = C.retraction; is = C.kernel_retracts }) c (m ∙ zero_image),
          right_inverse_injective C.rank.basis (record { inverse = C.rank.right; is = C.rank.right_inverse }) b zero_image,
        )

    -- A basis of the kernel of the power and a basis of its image are together a basis.
    pub fitting_invertible : HasInverse (stack C.kernel C.rank.basis)
    fitting_invertible = right_inverse_square (stack C.kernel C.rank.basis) C.rank_nullity (independent_sum C.kernel C.rank.basis meet_zero)
