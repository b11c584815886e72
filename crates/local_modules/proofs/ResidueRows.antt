-- The residue ring of an algebra that is embedded in a larger one, by ranks of rows of the larger that are reduced modulo the ideal: its dimension, whether it is a
-- Frobenius field, and which of its elements are invertible.
use Rattle.std.proofs.Common.{ℕ, ◌<◌, ◌+◌, ◌≡◌, arith, sym, ap, ap₂, ◌∙◌, subst}
use Rattle.linear_algebra.specs.Field.{Gf, order, mul}
use Rattle.linear_algebra.specs.Matrix.{Mat, Row, zeros, one, ◌⊞◌, ◌⊟◌, ◌·◌}
use Rattle.linear_algebra.specs.Parts.{row, unit}
use Rattle.linear_algebra.specs.Rank.{IsInSpan, HasRightInverse}
use Rattle.linear_algebra.specs.RowForm.{IsRowReduced}
use Rattle.linear_algebra.specs.LinearMaps.{matrix_of}
use Rattle.linear_algebra.specs.Ranks.{rank}
use Rattle.linear_algebra.proofs.Dimension.{rank_is}
use Rattle.linear_algebra.proofs.RankExists.{rank_factorisation}
use Rattle.linear_algebra.proofs.Ranks.{rank_same_span, rank_mul_right_inverse, rank_mul_left_inverse, rank_right_inverse}
use Rattle.linear_algebra.proofs.RowFormUnique.{combination-at}
use Rattle.linear_algebra.proofs.MatrixLaws.{sub_mul_mat, mul_sub_mat, one_mul_mat, mul_one_mat, mul_assoc_mat, mul_zeros, zeros_mul, add_mul_mat, add_zeros}
use Rattle.linear_algebra.proofs.PartsLaws.{Row-eq, rows_equal, row-mul, row_zeros, unit_mul}
use Rattle.linear_algebra.proofs.Solving.{in_span_trans, in_span_self, in_span_mul, in_span_image, injective_right_inverse, right_inverse_injective, left_f, row_in_span}
use Rattle.linear_algebra.specs.Sums.{sum-zeros}
use Rattle.linear_algebra.specs.FieldLaws.{mul_zero}
use Rattle.local_modules.specs.Algebra.{Algebra, Element, power_in}
use Rattle.local_modules.specs.Residue.{ResidueRing, IsRemainder}
use Rattle.linear_algebra.proofs.LinearMaps.{mul-matrix_of, row-matrix_of}
use Rattle.linear_algebra.proofs.RowForm.{reduced_independent}
use Rattle.linear_algebra.proofs.Exactness.{ranks_of_exact}
use Rattle.local_modules.proofs.FrobeniusFields.{frobenius_linear}
use Rattle.linear_algebra.proofs.Dimension.{square_inverse}
use Rattle.local_modules.specs.Ideal.{IsUnitModulo}
use Rattle.local_modules.proofs.AlgebraLaws.{right_matrix, mul-right_matrix, unit_of_left, zeros_product}
use Rattle.local_modules.proofs.FrobeniusRanks.{kernel_zero, full_rank}
use Rattle.local_modules.proofs.ResidueRing.{class_of, class_power, class_same, classes_of}
use Rattle.local_modules.proofs.ResidueConditions.{commutes_residue, unit_modulo}
use Rattle.local_modules.proofs.ResidueRanks.{frobenius_injective_rank, frobenius_line_rank, frobenius_of_ranks}
use Rattle.local_modules.specs.Subalgebra.{IsEmbedding, CommutesModulo, IsFrobeniusOf}
use Rattle.local_modules.proofs.Embeddings.{embedded_power, embedded_commutes, embedded_frobenius, frobenius_embedded}

-- A matrix that takes no row of a span to zero but zero keeps the rank.
pub rank_kept : {q : Gf} {m n c : ℕ} (p : Mat q m n) (g : Mat q n c) → ((x : Row q n) → IsInSpan p x → x · g ≡ zeros q 1 c → x ≡ zeros q 1 n) → rank (p · g) ≡ rank p
rank_kept {q} {m} {n} {c} p g h =
    let F = rank_factorisation p in
    let in_p : IsInSpan p F.basis = record { by = F.left; is = left_f F } in
    let in_basis : IsInSpan F.basis p = record { by = F.into; is = F.product } in
    let i : HasRightInverse (F.basis · g) = injective_right_inverse (F.basis · g) (λ u e. right_inverse_injective F.basis (record { inverse = F.right; is = F.right_inverse }) u
    (h (u · F.basis) (in_span_trans p F.basis (u · F.basis) in_p (in_span_mul F.basis u)) (mul_assoc_mat u F.basis g ∙ e))) in
    rank_same_span (F.basis · g) (p · g) (in_span_image F.basis p g in_basis) (in_span_image p F.basis g in_p) ∙ rank_right_inverse (F.basis · g) i ∙ sym (rank_is F)

module _ {q : Gf} (A E : Algebra q) (f : Mat q A.size E.size) (e : IsEmbedding A E f) (independent : HasRightInverse f) {k : ℕ} (I : Mat q k A.size) (R : ResidueRing A I)
    {l : ℕ} (J : Mat q l E.size) (pivot : ℕ → ℕ) (reduced : IsRowReduced J pivot) (s : IsInSpan (I · f) J) (t : IsInSpan J (I · f)) where
  -- Rows in the span of f that are zero at the pivots of J, and in the ideal, are zero.
  clear_member : (x : Row q A.size) → ((i : ℕ) → i < l → (x · f).at 0 (pivot i) ≡ 0) → x · R.class ≡ zeros q 1 R.ring.size → x ≡ zeros q 1 A.size
  unfolding zeros
  clear_member x z v =
      let m = in_span_trans J (I · f) (x · f) t (in_span_image I x f (R.kernel x v)) in
      let none : m.by ≡ zeros q 1 l = Row-eq m.by (zeros q 1 l) (λ i h. sym (combination-at J pivot reduced m.by i h) ∙ ap (λ (w : Row q E.size). w.at 0 (pivot i)) m.is ∙ z i h) in
      e.once x (zeros q 1 A.size) (sym m.is ∙ ap (λ w. w · J) none ∙ zeros_mul J ∙ sym (zeros_mul f))

  ideal_vanishes : I · R.class ≡ zeros q k R.ring.size
  ideal_vanishes = rows_equal (I · R.class) (zeros q k R.ring.size) (λ i h. row-mul i I R.class ∙ R.vanishes (row i I) (row_in_span I I i (in_span_self I)) ∙ sym (row_zeros q k R.ring.size i))

  clear : (rest : Mat q A.size E.size) (W : Mat q A.size A.size) (x : Row q A.size) → ((r i : ℕ) → i < l → rest.at r (pivot i) ≡ 0) → IsInSpan W x → rest ≡ W · f → (i : ℕ) → i < l → (x · f).at 0 (pivot i) ≡ 0
  unfolding ◌·◌
  clear rest W x z m d i h =
      ap (λ (w : Row q E.size). w.at 0 (pivot i)) (ap (λ w. w · f) (sym m.is) ∙ mul_assoc_mat m.by W f ∙ ap (λ w. m.by · w) (sym d))
      ∙ sum-zeros q A.size _ (λ r b. ap (mul q (m.by.at 0 r)) (z r i h) ∙ mul_zero q (m.by.at 0 r))

  -- The rank of a matrix of the residue ring, by rows of E that are reduced modulo J.
  pub rank_by_rows : (P : Mat q A.size A.size) (Q : Mat q R.ring.size R.ring.size) → P · R.class ≡ R.class · Q → (rest : Mat q A.size E.size) → IsRemainder J pivot (P · f) rest → rank rest ≡ rank Q
  rank_by_rows P Q c rest d = ranks d.by d.is d.clear
    where
      ranks : (Z : Mat q A.size l) → rest ≡ P · f ⊞ Z · J → ((r i : ℕ) → i < l → rest.at r (pivot i) ≡ 0) → rank rest ≡ rank Q
      ranks Z d z =
          let W = P ⊞ (Z · s.by) · I in
          let in_e : rest ≡ W · f = d ∙ ap (λ w. P · f ⊞ Z · w) (sym s.is) ∙ ap (λ w. P · f ⊞ w) (sym (mul_assoc_mat Z s.by (I · f)) ∙ sym (mul_assoc_mat (Z · s.by) I f)) ∙ sym (add_mul_mat P ((Z · s.by) · I) f) in
          let classes : W · R.class ≡ P · R.class = add_mul_mat P ((Z · s.by) · I) R.class ∙ ap (λ w. P · R.class ⊞ w) (mul_assoc_mat (Z · s.by) I R.class ∙ ap (λ w. (Z · s.by) · w) ideal_vanishes ∙ mul_zeros (Z · s.by)) ∙ add_zeros (P · R.class) in
          ap rank in_e ∙ rank_mul_right_inverse W f independent ∙ sym (rank_kept W R.class (λ x m v. clear_member x (clear rest W x z m in_e) v)) ∙ ap rank (classes ∙ c)
          ∙ rank_mul_left_inverse R.class Q (record { inverse = R.lift; is = R.class_of_lift })

  -- Powers of the rows of f, and powers less the rows.
  abbrev powers : Mat q A.size A.size
  powers = matrix_of (λ (x : Element A). power_in A x (order q))

  abbrev frobenius : Mat q R.ring.size R.ring.size
  frobenius = matrix_of (λ (x : Element R.ring). power_in R.ring x (order q))

  module _ (commutes : CommutesModulo E f (I · f)) where
    residue_commutes : (x y : Element R.ring) → R.ring.product x y ≡ R.ring.product y x
    residue_commutes = commutes_residue A I R (embedded_commutes A E f e I commutes)

    power_classes : powers · R.class ≡ R.class · frobenius
    unfolding class_of
    power_classes = rows_equal (powers · R.class) (R.class · frobenius) (λ i h.
        row-mul i powers R.class ∙ ap (λ w. w · R.class) (row-matrix_of (λ (x : Element A). power_in A x (order q)) i h) ∙ class_power A I R (unit q A.size i) (order q)
        ∙ sym (row-mul i R.class frobenius ∙ mul-matrix_of (λ (x : Element R.ring). power_in R.ring x (order q)) (frobenius_linear R.ring residue_commutes) (row i R.class) ∙ ap (λ w. power_in R.ring w (order q)) (sym (unit_mul i R.class))))

    difference_classes : (powers ⊟ one q A.size) · R.class ≡ R.class · (frobenius ⊟ one q R.ring.size)
    difference_classes = sub_mul_mat powers (one q A.size) R.class ∙ ap₂ (λ a b. a ⊟ b) power_classes (one_mul_mat R.class ∙ sym (mul_one_mat R.class)) ∙ sym (mul_sub_mat R.class frobenius (one q R.ring.size))

    pub power_rows : (p : Mat q A.size E.size) → ((i : ℕ) → i < A.size → row i p ≡ power_in E (row i f) (order q)) → p ≡ powers · f
    power_rows p h = rows_equal p (powers · f) (λ i l. h i l ∙ sym (row-mul i powers f ∙ ap (λ w. w · f) (row-matrix_of (λ (x : Element A). power_in A x (order q)) i l)
        ∙ embedded_power A E f e (unit q A.size i) (order q) ∙ ap (λ w. power_in E w (order q)) (unit_mul i f)))

    module _ (p first second : Mat q A.size E.size) (are_powers : (i : ℕ) → i < A.size → row i p ≡ power_in E (row i f) (order q)) (c : IsRemainder J pivot p first) (d : IsRemainder J pivot (p ⊟ f) second) where
      pub first_rank : rank first ≡ rank frobenius
      first_rank = rank_by_rows powers frobenius power_classes first (subst (λ w. IsRemainder J pivot w first) (power_rows p are_powers) c)

      pub second_rank : rank second ≡ rank (frobenius ⊟ one q R.ring.size)
      second_rank = rank_by_rows (powers ⊟ one q A.size) (frobenius ⊟ one q R.ring.size) difference_classes second
          (subst (λ w. IsRemainder J pivot w second) (ap (λ w. w ⊟ f) (power_rows p are_powers) ∙ ap (λ w. powers · f ⊟ w) (sym (one_mul_mat f)) ∙ sym (sub_mul_mat powers (one q A.size) f)) d)

      pub frobenius_from_ranks : rank first ≡ R.ring.size → 1 + rank second ≡ R.ring.size → IsFrobeniusOf E f (I · f)
      frobenius_from_ranks u v = frobenius_embedded A E f e I (frobenius_of_ranks A I R residue_commutes
          (rank_factorisation frobenius) (sym (rank_is (rank_factorisation frobenius)) ∙ sym first_rank ∙ u)
          (rank_factorisation (frobenius ⊟ one q R.ring.size)) (sym (ap (λ r. 1 + r) (rank_is (rank_factorisation (frobenius ⊟ one q R.ring.size)))) ∙ ap (λ r. 1 + r) (sym second_rank) ∙ v))

      pub ranks_from_frobenius : IsFrobeniusOf E f (I · f) → (rank first ≡ R.ring.size) × (1 + rank second ≡ R.ring.size)
      ranks_from_frobenius h = (
        first_rank ∙ rank_is (rank_factorisation frobenius) ∙ frobenius_injective_rank A I R (embedded_frobenius A E f e I h) (rank_factorisation frobenius),
        ap (λ r. 1 + r) (second_rank ∙ rank_is (rank_factorisation (frobenius ⊟ one q R.ring.size))) ∙ frobenius_line_rank A I R (embedded_frobenius A E f e I h) (rank_factorisation (frobenius ⊟ one q R.ring.size)),
      )

  -- the dimension of the residue ring
  pub residue_size : l + R.ring.size ≡ A.size
  residue_size =
      let F = rank_factorisation I in
      let G = rank_factorisation R.class in
      let sum = ranks_of_exact I R.class F G ideal_vanishes R.kernel in
      let i : rank I ≡ l = sym (rank_mul_right_inverse I f independent) ∙ rank_same_span J (I · f) t s ∙ rank_right_inverse J (reduced_independent J pivot reduced) in
      let c : rank R.class ≡ R.ring.size = class_rank in
      let a = rank_is F in let b = rank_is G in
      omega (arith, sum, i, c, a, b)
    where
      class_rank : rank R.class ≡ R.ring.size
      class_rank = ap rank (sym (mul_one_mat R.class)) ∙ rank_mul_left_inverse R.class (one q R.ring.size) (record { inverse = R.lift; is = R.class_of_lift }) ∙ rank_right_inverse (one q R.ring.size) (record { inverse = one q R.ring.size; is = mul_one_mat (one q R.ring.size) })

  -- Products with an element from the right.
  module _ (y : Element A) where
    right_classes : right_matrix A y · R.class ≡ R.class · right_matrix R.ring (y · R.class)
    right_classes = rows_equal (right_matrix A y · R.class) (R.class · right_matrix R.ring (y · R.class)) (λ i h.
        row-mul i (right_matrix A y) R.class ∙ ap (λ w. w · R.class) (sym (unit_mul i (right_matrix A y)) ∙ mul-right_matrix A (unit q A.size i) y) ∙ R.product (unit q A.size i) y
        ∙ ap (λ w. R.ring.product w (y · R.class)) (unit_mul i R.class) ∙ sym (row-mul i R.class (right_matrix R.ring (y · R.class)) ∙ mul-right_matrix R.ring (row i R.class) (y · R.class)))

    product_rows : (p : Mat q A.size E.size) → ((i : ℕ) → i < A.size → row i p ≡ E.product (row i f) (y · f)) → p ≡ right_matrix A y · f
    product_rows p h = rows_equal p (right_matrix A y · f) (λ i l. h i l ∙ sym (row-mul i (right_matrix A y) f ∙ ap (λ w. w · f) (sym (unit_mul i (right_matrix A y)) ∙ mul-right_matrix A (unit q A.size i) y)
        ∙ e.product (unit q A.size i) y ∙ ap (λ w. E.product w (y · f)) (unit_mul i f)))

    module _ (p rest : Mat q A.size E.size) (are_products : (i : ℕ) → i < A.size → row i p ≡ E.product (row i f) (y · f)) (d : IsRemainder J pivot p rest) where
      pub products_rank : rank rest ≡ rank (right_matrix R.ring (y · R.class))
      products_rank = rank_by_rows (right_matrix A y) (right_matrix R.ring (y · R.class)) right_classes rest (subst (λ w. IsRemainder J pivot w rest) (product_rows p are_products) d)

      pub unit_from_rank : rank rest ≡ R.ring.size → IsUnitModulo A I y
      unfolding class_of
      unit_from_rank u =
          let Q = right_matrix R.ring (y · R.class) in
          let r = injective_right_inverse Q (λ x e. kernel_zero Q (sym products_rank ∙ u) x e) in
          unit_modulo A I R y (unit_of_left R.ring (y · R.class) (R.ring.unit · r.inverse)
          (sym (mul-right_matrix R.ring (R.ring.unit · r.inverse) (y · R.class)) ∙ mul_assoc_mat R.ring.unit r.inverse Q ∙ ap (λ w. R.ring.unit · w) (square_inverse Q r.inverse r.is) ∙ mul_one_mat R.ring.unit))

      pub rank_from_unit : IsUnitModulo A I y → rank rest ≡ R.ring.size
      unfolding class_of
      rank_from_unit m = products_rank ∙ full_rank (right_matrix R.ring (y · R.class)) (λ x e. killed x (sym (mul-right_matrix R.ring x (y · R.class)) ∙ e))
        where
          inverse : R.ring.product (y · R.class) (m.inverse · R.class) ≡ R.ring.unit
          inverse = sym (R.product y m.inverse) ∙ class_same A I (classes_of R) (A.product y m.inverse) A.unit m.right ∙ R.unit

          killed : (x : Element R.ring) → R.ring.product x (y · R.class) ≡ zeros q 1 R.ring.size → x ≡ zeros q 1 R.ring.size
          killed x z = sym (R.ring.product_unit x) ∙ ap (R.ring.product x) (sym inverse) ∙ sym (R.ring.associates x (y · R.class) (m.inverse · R.class))
              ∙ ap (λ w. R.ring.product w (m.inverse · R.class)) z ∙ zeros_product R.ring (m.inverse · R.class)
