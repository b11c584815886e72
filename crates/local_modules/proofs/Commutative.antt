-- An algebra is commutative where the unit rows commute; whether it is, is decided.
use Rattle.std.proofs.Common.{ℕ, ◌<◌, ◌≡◌, ◌≢◌, ◌⊎◌, inl, inr, sym, ap, ◌∙◌}
use Rattle.linear_algebra.specs.Field.{Gf}
use Rattle.linear_algebra.specs.Matrix.{◌·◌}
use Rattle.linear_algebra.specs.Parts.{unit}
use Rattle.linear_algebra.proofs.PartsLaws.{rows_equal, unit_mul}
use Rattle.linear_algebra.proofs.Search.{search_or_all}
use Rattle.linear_algebra.proofs.Solving.{equal_or_not}
use Rattle.local_modules.specs.Algebra.{Algebra, Element}
use Rattle.local_modules.proofs.AlgebraLaws.{right_matrix, left_matrix, mul-right_matrix, mul-left_matrix}

module _ {q : Gf} (A : Algebra q) where
  same_matrices : (x : Element A) → ((j : ℕ) → j < A.size → A.product x (unit q A.size j) ≡ A.product (unit q A.size j) x) → left_matrix A x ≡ right_matrix A x
  same_matrices x h = rows_equal _ _ (λ j l.
      sym (unit_mul j (left_matrix A x)) ∙ mul-left_matrix A x (unit q A.size j) ∙ h j l ∙ sym (mul-right_matrix A (unit q A.size j) x) ∙ unit_mul j (right_matrix A x))

  pub commutes_by_units : ((i j : ℕ) → i < A.size → j < A.size → A.product (unit q A.size i) (unit q A.size j) ≡ A.product (unit q A.size j) (unit q A.size i)) → (x y : Element A) → A.product x y ≡ A.product y x
  commutes_by_units h x y = sym (mul-left_matrix A x y) ∙ ap (λ z. y · z) (same_matrices x (λ j l. with_unit j l x)) ∙ mul-right_matrix A y x
    where
      with_unit : (j : ℕ) → j < A.size → (x : Element A) → A.product x (unit q A.size j) ≡ A.product (unit q A.size j) x
      with_unit j l x = sym (mul-right_matrix A x (unit q A.size j)) ∙ ap (λ z. x · z) (sym (same_matrices (unit q A.size j) (λ i k. h j i l k))) ∙ mul-left_matrix A (unit q A.size j) x

  pub commutative_or_not : ((x y : Element A) → A.product x y ≡ A.product y x) ⊎ ((x : Element A) × (y : Element A) × (A.product x y ≢ A.product y x))
  commutative_or_not = elim (search_or_all A.size (λ i. (x : Element A) × (y : Element A) × (A.product x y ≢ A.product y x))
      (λ i. (j : ℕ) → j < A.size → A.product (unit q A.size i) (unit q A.size j) ≡ A.product (unit q A.size j) (unit q A.size i)) pairs) [
        | inl f ↦ inr f.2
        | inr h ↦ inl (commutes_by_units (λ i j k l. h i k j l))
      ]
    where
      pairs : (i : ℕ) → ((x : Element A) × (y : Element A) × (A.product x y ≢ A.product y x)) ⊎ ((j : ℕ) → j < A.size → A.product (unit q A.size i) (unit q A.size j) ≡ A.product (unit q A.size j) (unit q A.size i))
      pairs i = elim (search_or_all A.size (λ j. A.product (unit q A.size i) (unit q A.size j) ≢ A.product (unit q A.size j) (unit q A.size i))
          (λ j. A.product (unit q A.size i) (unit q A.size j) ≡ A.product (unit q A.size j) (unit q A.size i))
          (λ j. elim (equal_or_not (A.product (unit q A.size i) (unit q A.size j)) (A.product (unit q A.size j) (unit q A.size i))) [ inl e ↦ inr e | inr n ↦ inl n ])) [
            | inl f ↦ inl (unit q A.size i, unit q A.size f.0, f.2)
            | inr h ↦ inr h
          ]
