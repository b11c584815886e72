-- Nil right ideals: for a nilpotent x either all products of members of x·A, as many as the dimension of A, are zero, or x·A has a member that is
-- neither invertible nor nilpotent.
use Rattle.std.proofs.Common.{ℕ, zero, suc, ◌≡◌, ◌≢◌, ◌⊎◌, inl, inr, sym, ap, ◌∙◌, subst}
use Rattle.linear_algebra.specs.Field.{Gf}
use Rattle.linear_algebra.specs.Matrix.{Mat, Row, Column, zeros, one, ◌·◌}
use Rattle.linear_algebra.specs.Parts.{row, unit}
use Rattle.linear_algebra.specs.Rank.{IsInSpan}
use Rattle.linear_algebra.specs.Powers.{mat_power}
use Rattle.linear_algebra.specs.Families.{combine, IsCombination, ordered_product, HasFixedRow}
use Rattle.linear_algebra.specs.LinearMaps.{IsLinear}
use Rattle.linear_algebra.proofs.MatrixLaws.{mul_assoc_mat, mul_zeros, zeros_mul}
use Rattle.linear_algebra.proofs.Inverses.{mat_power-zero, mat_power-suc}
use Rattle.linear_algebra.proofs.MatrixLaws.{mul_one_mat}
use Rattle.linear_algebra.proofs.LinearMaps.{as_units, mul_rows, linear_combine}
use Rattle.linear_algebra.proofs.NilOrFixed.{nil_or_fixed}
use Rattle.linear_algebra.proofs.Solving.{zeros_not_one}
use Rattle.local_modules.specs.Algebra.{Algebra, Element, product_in, IsNilpotentIn, IsMixed}
use Rattle.local_modules.proofs.AlgebraLaws.{right_matrix, right_matrix-product, right_matrix-unit, right_matrix-sum, right_matrix-multiple, right_matrix-power, right_matrix-zeros, right_matrix_injective, by_left_linear, unit_first, nilpotent_no_unit}

-- A matrix that fixes a row that is not zero has no power that is zero.
pub fixed_row_not_nilpotent : {q : Gf} {n : ℕ} (a : Row q n) (u : Column q n) → a · u ≡ one q 1 → (r : Mat q n n) → a · r ≡ a → (e : ℕ) → mat_power r e ≡ zeros q n n → ⊥
fixed_row_not_nilpotent {q} {n} a u nonzero r fixes e z = zeros_not_one q (sym (zeros_mul u) ∙ ap (λ z. z · u) (sym (sym (stays e) ∙ ap (λ m. a · m) z ∙ mul_zeros a)) ∙ nonzero)
  where
    stays : (k : ℕ) → a · mat_power r k ≡ a
    stays zero = ap (λ z. a · z) (mat_power-zero r) ∙ mul_one_mat a
    stays (suc k) = ap (λ z. a · z) (mat_power-suc r k) ∙ sym (mul_assoc_mat a r (mat_power r k)) ∙ ap (λ z. z · mat_power r k) fixes ∙ stays k

module _ {q : Gf} (A : Algebra q) where
  pub right_matrix_linear : IsLinear (λ (y : Element A). right_matrix A y)
  right_matrix_linear = record { sum = right_matrix-sum A; multiple = right_matrix-multiple A }

  pub right_matrix-product_in : (h : ℕ → Element A) (k : ℕ) → right_matrix A (product_in A h k) ≡ ordered_product (λ i. right_matrix A (h i)) k
  unfolding product_in ordered_product
  right_matrix-product_in h zero = right_matrix-unit A
  right_matrix-product_in h (suc k) = right_matrix-product A (product_in A h k) (h k) ∙ ap (λ z. z · right_matrix A (h k)) (right_matrix-product_in h k)

  -- The matrices of a combination of rows are the combinations of their matrices.
  pub matrix_of_combination : (s : ℕ) (c : ℕ → ℕ) (g : ℕ → Element A) → right_matrix A (combine s c g) ≡ combine s c (λ i. right_matrix A (g i))
  matrix_of_combination s c g = linear_combine (λ (y : Element A). right_matrix A y) right_matrix_linear s c g

  pub matrix_in_span : {k : ℕ} (I : Mat q k A.size) (y : Element A) → IsInSpan I y → IsCombination k (λ j. right_matrix A (row j I)) (right_matrix A y)
  matrix_in_span {k} I y s = record {
    coefficients = s.by.at 0;
    is = sym (matrix_of_combination k (s.by.at 0) (λ j. row j I)) ∙ ap (right_matrix A) (sym (mul_rows s.by I) ∙ s.is);
  }

  module _ (x : Element A) where
    -- the matrices of x times the unit rows
    unfoldable members : ℕ → Mat q A.size A.size
    members j = right_matrix A (A.product x (unit q A.size j))

    combination_is : (c : ℕ → ℕ) → combine A.size c members ≡ right_matrix A (A.product x (combine A.size c (unit q A.size)))
    unfolding members
    combination_is c =
        sym (matrix_of_combination A.size c (λ j. A.product x (unit q A.size j))) ∙ ap (right_matrix A) (sym (linear_combine (λ (y : Element A). A.product x y) (by_left_linear A x) A.size c (unit q A.size)))

    multiples_are : (y : Element A) → IsCombination A.size members (right_matrix A (A.product x y))
    multiples_are y = record { coefficients = y.at 0; is = combination_is (y.at 0) ∙ ap (λ z. right_matrix A (A.product x z)) (sym (as_units y)) }

    members_closed : (i j : ℕ) → IsCombination A.size members (members i · members j)
    unfolding members
    members_closed i j = subst (IsCombination A.size members)
        (ap (right_matrix A) (sym (A.associates x (unit q A.size i) (A.product x (unit q A.size j)))) ∙ right_matrix-product A (A.product x (unit q A.size i)) (A.product x (unit q A.size j)))
        (multiples_are (A.product (unit q A.size i) (A.product x (unit q A.size j))))

    -- an element that fixes a row is not nilpotent
    fixed_not_nilpotent : (f : HasFixedRow A.size members) → IsNilpotentIn A (A.product x (combine A.size f.in_family.coefficients (unit q A.size))) → ⊥
    fixed_not_nilpotent f n = fixed_row_not_nilpotent f.fixed f.functional f.nonzero (right_matrix A element) (ap (λ z. f.fixed · z) (sym (combination_is f.in_family.coefficients) ∙ f.in_family.is) ∙ f.is_fixed) n.exponent
        (sym (right_matrix-power A element n.exponent) ∙ ap (right_matrix A) n.vanishes ∙ right_matrix-zeros A)
      where
        element : Element A
        element = A.product x (combine A.size f.in_family.coefficients (unit q A.size))

    -- Nil right ideals.
    pub nil_right_ideal : A.unit ≢ zeros q 1 A.size → IsNilpotentIn A x
        → ((y : ℕ → Element A) → product_in A (λ i. A.product x (y i)) A.size ≡ zeros q 1 A.size) ⊎ ((y : Element A) × IsMixed A (A.product x y))
    nil_right_ideal nonzero n = elim (nil_or_fixed A.size members (λ i j h k. members_closed i j)) [
      | inl z ↦ inl (λ y. right_matrix_injective A _ _ (right_matrix-product_in (λ i. A.product x (y i)) A.size ∙ z (λ i. right_matrix A (A.product x (y i))) (λ i l. multiples_are (y i)) ∙ sym (right_matrix-zeros A)))
      | inr f ↦ inr (
        combine A.size f.in_family.coefficients (unit q A.size),
        record {
          no_unit = λ i. nilpotent_no_unit A nonzero x n (unit_first A x (combine A.size f.in_family.coefficients (unit q A.size)) i);
          not_nilpotent = fixed_not_nilpotent f;
        },
      )
    ]
