-- The two forms of a residue ring, as conditions on the ring in coordinates: on ranks, and on its elements.
use Rattle.std.proofs.Common.{ℕ, ◌+◌, ◌<◌, ◌≡◌, ◌⊎◌, inl, inr, sym, ap, ◌∙◌, subst}
use Rattle.linear_algebra.specs.Field.{Gf, order}
use Rattle.linear_algebra.specs.Matrix.{Mat, zeros, one, ◌⊟◌, ◌·◌}
use Rattle.linear_algebra.specs.Parts.{row, unit}
use Rattle.linear_algebra.specs.Rank.{IsInSpan, RankFactorisation}
use Rattle.linear_algebra.specs.LinearMaps.{matrix_of}
use Rattle.linear_algebra.proofs.PartsLaws.{row-mul, unit_mul}
use Rattle.linear_algebra.proofs.Solving.{in_span_by_rows, in_span_trans, in_span_image, in_span_mul}
use Rattle.linear_algebra.proofs.Dimension.{rank_is}
use Rattle.local_modules.specs.Algebra.{Algebra, Element, power_in, IsUnitIn}
use Rattle.local_modules.specs.Ideal.{IsTwoSided, IsFrobeniusField, IsListedDivisionRing}
use Rattle.local_modules.specs.Residue.{ResidueRing}
use Rattle.local_modules.proofs.AlgebraLaws.{right_matrix, left_matrix, mul-right_matrix, mul-left_matrix}
use Rattle.local_modules.proofs.ResidueRing.{Classes, classes_of, class_of, class_same, class_power, member_of_class}
use Rattle.local_modules.proofs.ResidueConditions.{commutes_residue, injective_residue, fixed_residue, frobenius_modulo, unit_modulo}
use Rattle.local_modules.proofs.FrobeniusRanks.{injective_rank, rank_injective, fixed_line_rank, rank_fixed_line}

-- It is enough to multiply the rows of an ideal by the unit rows.
module _ {q : Gf} (A : Algebra q) {k : ℕ} (I : Mat q k A.size) (left : (i j : ℕ) → i < A.size → j < k → IsInSpan I (A.product (unit q A.size i) (row j I)))
    (right : (i j : ℕ) → i < A.size → j < k → IsInSpan I (A.product (row j I) (unit q A.size i))) where
  left_row : (a : Element A) (j : ℕ) → j < k → IsInSpan I (A.product a (row j I))
  left_row a j l = subst (IsInSpan I) (mul-right_matrix A a (row j I)) (in_span_trans I (right_matrix A (row j I)) (a · right_matrix A (row j I))
      (in_span_by_rows I (right_matrix A (row j I)) (λ i h. subst (IsInSpan I) (sym (mul-right_matrix A (unit q A.size i) (row j I)) ∙ unit_mul i (right_matrix A (row j I))) (left i j h l)))
      (in_span_mul (right_matrix A (row j I)) a))

  right_row : (a : Element A) (j : ℕ) → j < k → IsInSpan I (A.product (row j I) a)
  right_row a j l = subst (IsInSpan I) (mul-left_matrix A (row j I) a) (in_span_trans I (left_matrix A (row j I)) (a · left_matrix A (row j I))
      (in_span_by_rows I (left_matrix A (row j I)) (λ i h. subst (IsInSpan I) (sym (mul-left_matrix A (row j I) (unit q A.size i)) ∙ unit_mul i (left_matrix A (row j I))) (right i j h l)))
      (in_span_mul (left_matrix A (row j I)) a))

  pub two_sided_by_basis : IsTwoSided A I
  two_sided_by_basis = record {
    left = λ a x s. subst (IsInSpan I) (mul-left_matrix A a x) (in_span_trans I (I · left_matrix A a) (x · left_matrix A a)
        (in_span_by_rows I (I · left_matrix A a) (λ j l. subst (IsInSpan I) (sym (row-mul j I (left_matrix A a) ∙ mul-left_matrix A a (row j I))) (left_row a j l)))
        (in_span_image I x (left_matrix A a) s));
    right = λ a x s. subst (IsInSpan I) (mul-right_matrix A x a) (in_span_trans I (I · right_matrix A a) (x · right_matrix A a)
        (in_span_by_rows I (I · right_matrix A a) (λ j l. subst (IsInSpan I) (sym (row-mul j I (right_matrix A a) ∙ mul-right_matrix A (row j I) a)) (right_row a j l)))
        (in_span_image I x (right_matrix A a) s));
  }

module _ {q : Gf} (A : Algebra q) {k : ℕ} (I : Mat q k A.size) (S : ResidueRing A I) where
  abbrev R : Algebra q
  R = S.ring

  abbrev C : Classes I
  C = classes_of S

  -- the matrix of taking q-th powers
  abbrev powers : Mat q S.ring.size S.ring.size
  powers = matrix_of (λ (x : Element S.ring). power_in S.ring x (order q))

  pub frobenius_injective_rank : IsFrobeniusField A I → (f : RankFactorisation powers) → f.size ≡ R.size
  frobenius_injective_rank h f = sym (rank_is f) ∙ injective_rank R (commutes_residue A I S h.commutative) (injective_residue A I S h)

  pub frobenius_line_rank : IsFrobeniusField A I → (g : RankFactorisation (powers ⊟ one q S.ring.size)) → 1 + g.size ≡ R.size
  frobenius_line_rank h g = sym (ap (λ r. 1 + r) (rank_is g)) ∙ fixed_line_rank R (commutes_residue A I S h.commutative) (class_of A I C h.fixed) (λ z. h.fixed_nonzero (member_of_class A I C h.fixed z))
      (sym (class_power A I S h.fixed (order q)) ∙ class_same A I C _ _ h.is_fixed) (fixed_residue A I S h)

  pub frobenius_of_ranks : ((x y : Element R) → R.product x y ≡ R.product y x) → (f : RankFactorisation powers) → f.size ≡ R.size
      → (g : RankFactorisation (powers ⊟ one q S.ring.size)) → 1 + g.size ≡ R.size → IsFrobeniusField A I
  frobenius_of_ranks c f e g d =
      let s = rank_fixed_line R c (ap (λ r. 1 + r) (rank_is g) ∙ d) in
      frobenius_modulo A I S c (rank_injective R c (rank_is f ∙ e)) s.0 s.1 s.2 s.3

  pub listed_of_units : (((x y : Element R) → R.product x y ≡ R.product y x) → ⊥) → ((y : Element R) → (y ≡ zeros q 1 S.ring.size) ⊎ IsUnitIn R y) → IsListedDivisionRing A I
  listed_of_units n d = record {
    not_commutative = λ c. n (commutes_residue A I S c);
    inverses = λ x m. elim (d (class_of A I C x)) [ inl z ↦ absurd (m (member_of_class A I C x z)) | inr i ↦ unit_modulo A I S x i ];
  }
