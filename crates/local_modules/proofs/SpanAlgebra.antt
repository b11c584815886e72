-- A span of endomorphisms that contains the identity and is closed under composition is a matrix algebra: it has a basis.
use Rattle.std.proofs.Common.{ℕ, zero, suc, ◌<◌, ◌≡◌, sym, ap, ap₂, ◌∙◌, arith, subst, mod-eq_of_lt}
use Rattle.linear_algebra.specs.Field.{Gf}
use Rattle.linear_algebra.specs.Matrix.{Mat, Row, made, zeros, ◌⊞◌, ◌⊙◌, ◌·◌}
use Rattle.linear_algebra.specs.Parts.{row}
use Rattle.linear_algebra.specs.Rank.{IsInSpan}
use Rattle.linear_algebra.specs.RowForm.{ReducedForm}
use Rattle.linear_algebra.specs.Families.{combine}
use Rattle.linear_algebra.proofs.MatrixLaws.{mul_assoc_mat, add_mul_mat, scale_mul, zero_scale}
use Rattle.linear_algebra.proofs.PartsLaws.{made-at, row-at, Row-eq}
use Rattle.linear_algebra.proofs.LinearMaps.{mul_rows, combine-same_members}
use Rattle.linear_algebra.proofs.Families.{in_span_zeros, in_span_scale, combine_in_span}
use Rattle.linear_algebra.proofs.RowForm.{reduced_form, reduced_independent}
use Rattle.linear_algebra.proofs.Solving.{in_span_self, in_span_sum, in_span_mul, in_span_trans, row_in_span, right_inverse_cancels}
use Rattle.representations.specs.Quiver.{Quiver}
use Rattle.representations.specs.Rep.{Rep}
use Rattle.representations.specs.Hom.{Hom, ◌≫◌, identity, zero_hom, multiple, sum_of}
use Rattle.representations.specs.HomSpace.{unknowns, flat}
use Rattle.representations.proofs.Homs.{zero_multiple, multiple_compose, compose_multiple, compose_sum_of, sum_of_compose}
use Rattle.representations.proofs.HomSpace.{flat_injective, flat-sum, flat-multiple}
use Rattle.representations.proofs.Biproducts.{sum_of-none, sum_of-suc}
use Rattle.local_modules.specs.MatrixAlgebra.{MatrixAlgebra, IsCombinationOf, IsClosedSpan}

module _ {q : Gf} {Q : Quiver} {X : Rep q Q} (m : ℕ) (h : ℕ → Hom X X) where
  -- the rows of entries of the endomorphisms
  unfoldable entries : Mat q m (unknowns X X)
  entries = made q m (unknowns X X) (λ i j. (flat (h i)).at 0 j)

  row-entries : (i : ℕ) → i < m → row i entries ≡ flat (h i)
  unfolding entries
  row-entries i l = Row-eq _ _ (λ j k. row-at i entries j ∙ made-at q m (unknowns X X) (λ i j. (flat (h i)).at 0 j) i j l k ∙ mod-eq_of_lt ((flat (h i)).fits.small 0 j))

  flat-zero : flat (zero_hom X X) ≡ zeros q 1 (unknowns X X)
  flat-zero = ap flat (sym (zero_multiple (identity X))) ∙ flat-multiple X X 0 (identity X) ∙ zero_scale (flat (identity X))

  flat_combination : (s : ℕ) (c : ℕ → ℕ) → flat (sum_of s (λ i. multiple (c i) (h i))) ≡ combine s c (λ i. flat (h i))
  unfolding combine
  flat_combination zero c = ap flat (sum_of-none (λ i. multiple (c i) (h i))) ∙ flat-zero
  flat_combination (suc s) c =
      ap flat (sum_of-suc s (λ i. multiple (c i) (h i))) ∙ flat-sum X X (sum_of s (λ i. multiple (c i) (h i))) (multiple (c s) (h s))
      ∙ ap₂ (λ u v. u ⊞ v) (flat_combination s c) (flat-multiple X X (c s) (h s))

  -- combinations with the coefficients of a row
  unfoldable of_row : Row q m → Hom X X
  of_row c = sum_of m (λ i. multiple (c.at 0 i) (h i))

  flat-of_row : (c : Row q m) → flat (of_row c) ≡ c · entries
  unfolding of_row
  flat-of_row c = flat_combination m (c.at 0) ∙ combine-same_members m (c.at 0) (λ i. flat (h i)) (λ i. row i entries) (λ i l. sym (row-entries i l)) ∙ sym (mul_rows c entries)

  -- in the span
  Has : Hom X X → Type 0
  Has f = IsInSpan entries (flat f)

  has_combination : (f : Hom X X) → IsCombinationOf m h f → Has f
  unfolding Has
  has_combination f k = subst (λ g. IsInSpan entries (flat g)) k.is (subst (IsInSpan entries) (sym (flat_combination m k.coefficients))
      (combine_in_span entries m k.coefficients (λ i. flat (h i)) (λ i l. subst (IsInSpan entries) (row-entries i l) (row_in_span entries entries i (in_span_self entries)))))

  combination_of_has : (f : Hom X X) → Has f → IsCombinationOf m h f
  unfolding Has of_row
  combination_of_has f s = record { coefficients = s.by.at 0; is = flat_injective X X _ f (flat-of_row s.by ∙ s.is) }

  has_sum : (s : ℕ) (f : ℕ → Hom X X) → ((i : ℕ) → i < s → Has (f i)) → Has (sum_of s f)
  unfolding Has
  has_sum zero f k = subst (IsInSpan entries) (sym (ap flat (sum_of-none f) ∙ flat-zero)) (in_span_zeros 1 entries)
  has_sum (suc s) f k = subst (IsInSpan entries) (sym (ap flat (sum_of-suc s f) ∙ flat-sum X X (sum_of s f) (f s)))
      (in_span_sum entries (flat (sum_of s f)) (flat (f s)) (has_sum s f (λ i l. k i (omega arith))) (k s (omega arith)))

  has_multiple : (c : ℕ) (f : Hom X X) → Has f → Has (multiple c f)
  unfolding Has
  has_multiple c f k = subst (IsInSpan entries) (sym (flat-multiple X X c f)) (in_span_scale entries c (flat f) k)

  module _ (closed : IsClosedSpan m h) where
    has_composite : (c d : Row q m) → Has (of_row c ≫ of_row d)
    unfolding of_row
    has_composite c d = subst Has (sym (sum_of_compose m (λ i. multiple (c.at 0 i) (h i)) (of_row d)))
        (has_sum m (λ i. multiple (c.at 0 i) (h i) ≫ of_row d) (λ i l. subst Has (sym (multiple_compose (c.at 0 i) (h i) (of_row d)))
        (has_multiple (c.at 0 i) (h i ≫ of_row d) (subst Has (sym (compose_sum_of m (h i) (λ j. multiple (d.at 0 j) (h j))))
        (has_sum m (λ j. h i ≫ multiple (d.at 0 j) (h j)) (λ j k. subst Has (sym (compose_multiple (d.at 0 j) (h i) (h j)))
        (has_multiple (d.at 0 j) (h i ≫ h j) (has_combination (h i ≫ h j) (closed.has_composites i j l k)))))))))

    module _ (F : ReducedForm entries) where
      member : Row q F.size → Hom X X
      member x = of_row (x · F.spanned.by)

      flat-member : (x : Row q F.size) → flat (member x) ≡ x · F.rows
      unfolding member
      flat-member x = flat-of_row (x · F.spanned.by) ∙ mul_assoc_mat x F.spanned.by entries ∙ ap (λ z. x · z) F.spanned.is

      member_once : (x y : Row q F.size) → member x ≡ member y → x ≡ y
      member_once x y e = right_inverse_cancels F.rows (reduced_independent F.rows F.pivot F.reduced) x y (sym (flat-member x) ∙ ap flat e ∙ flat-member y)

      coordinates_in : (f : Hom X X) → Has f → (x : Row q F.size) × (member x ≡ f)
      unfolding Has
      coordinates_in f k = let s = in_span_trans F.rows entries (flat f) F.spans k in (s.by, flat_injective X X (member s.by) f (flat-member s.by ∙ s.is))

      composite_in : (c d : Row q F.size) → (x : Row q F.size) × (member x ≡ member c ≫ member d)
      unfolding member
      composite_in c d = coordinates_in (member c ≫ member d) (has_composite (c · F.spanned.by) (d · F.spanned.by))

      one_in : (x : Row q F.size) × (member x ≡ identity X)
      one_in = coordinates_in (identity X) (has_combination (identity X) closed.has_one)

      span_matrices : MatrixAlgebra X
      span_matrices = record {
        size = F.size;
        element = member;
        element_sum = λ c d. flat_injective X X _ _ (flat-member (c ⊞ d) ∙ add_mul_mat c d F.rows ∙ sym (flat-sum X X (member c) (member d) ∙ ap₂ (λ u v. u ⊞ v) (flat-member c) (flat-member d)));
        element_multiple = λ n c. flat_injective X X _ _ (flat-member (n ⊙ c) ∙ scale_mul n c F.rows ∙ sym (flat-multiple X X n (member c) ∙ ap (λ z. n ⊙ z) (flat-member c)));
        once = member_once;
        one = one_in.0;
        one_is = one_in.1;
        composite = λ c d. (composite_in c d).0;
        composite_is = λ c d. (composite_in c d).1;
      }

    -- The matrix algebra, with all combinations as its members.
    pub matrix_algebra_of_span : (M : MatrixAlgebra X) × ((x : Row q M.size) → IsCombinationOf m h (M.element x)) × ((f : Hom X X) → IsCombinationOf m h f → (x : Row q M.size) × (M.element x ≡ f))
    unfolding span_matrices Has
    matrix_algebra_of_span =
        let F = reduced_form entries in (
          span_matrices F,
          (λ x. combination_of_has (member F x) (subst (IsInSpan entries) (sym (flat-member F x)) (in_span_trans entries F.rows (x · F.rows) F.spanned (in_span_mul F.rows x)))),
          (λ f k. coordinates_in F f (has_combination f k)),
        )
