-- Kernels, cokernels and images: exactness, the universal properties, and the sizes.
use Rattle.std.proofs.Common.{ℕ, ◌+◌, ◌≡◌, sym, ap, ap₂, ◌∙◌, arith}
use Rattle.linear_algebra.specs.Field.{Gf}
use Rattle.linear_algebra.specs.Matrix.{Row, zeros, ◌·◌}
use Rattle.linear_algebra.specs.Rank.{IsInSpan}
use Rattle.linear_algebra.proofs.MatrixLaws.{mul_assoc_mat, mul_zeros}
use Rattle.linear_algebra.proofs.RankExists.{rank_factorisation}
use Rattle.linear_algebra.proofs.Solving.{injective_right_inverse, right_inverse_cancels, surjective_left_inverse, in_span_trans, in_span_mul}
use Rattle.linear_algebra.proofs.Dimension.{complement, kernel_spans, cokernel_spans, rank, rank_is}
use Rattle.linear_algebra.proofs.Ranks.{rank_right_inverse, rank_left_inverse}
use Rattle.linear_algebra.proofs.RowForm.{reduced_form}
use Rattle.linear_algebra.proofs.PartsLaws.{equal_on_rows}
use Rattle.linear_algebra.proofs.Exactness.{ranks_of_exact}
use Rattle.representations.specs.Quiver.{Quiver}
use Rattle.representations.specs.Rep.{Rep}
use Rattle.representations.specs.Hom.{Hom, Hom-eq, ◌≫◌, zero_hom}
use Rattle.representations.specs.Module.{IsMono, IsEpi, IsExact}
use Rattle.representations.specs.Submodule.{inclusion, projection}
use Rattle.representations.specs.Kernel.{kernel, cokernel, image}
use Rattle.representations.specs.Factoring.{FactorsAfter, FactorsBefore}
use Rattle.representations.proofs.Homs.{compose-at, zero_hom-at, same-at}
use Rattle.representations.proofs.Submodules.{inclusion_mono, projection_epi}
use Rattle.representations.proofs.Factoring.{through_epi, through_mono}

module _ {q : Gf} {Q : Quiver} where
  -- A composite of zero is zero on rows, and back.
  pub complex_zero : {X Y Z : Rep q Q} (f : Hom X Y) (g : Hom Y Z) → f ≫ g ≡ zero_hom X Z → (v : ℕ) → f.at v · g.at v ≡ zeros q (X.dim v) (Z.dim v)
  complex_zero {X} {Y} {Z} f g e v = sym (compose-at f g v) ∙ same-at e v ∙ zero_hom-at X Z v

  pub IsExact-zero : {X Y Z : Rep q Q} (f : Hom X Y) (g : Hom Y Z) → IsExact f g → f ≫ g ≡ zero_hom X Z
  IsExact-zero {X} {Y} {Z} f g e = Hom-eq (f ≫ g) (zero_hom X Z) (λ v.
      compose-at f g v ∙ equal_on_rows (f.at v · g.at v) (zeros q (X.dim v) (Z.dim v)) (λ x. sym (mul_assoc_mat x (f.at v) (g.at v)) ∙ e.complex v x ∙ sym (mul_zeros x))
      ∙ sym (zero_hom-at X Z v))

  -- The kernel is exact, and so is the cokernel.
  pub kernel_exact : {X Y : Rep q Q} (f : Hom X Y) → IsExact (inclusion (kernel f)) f
  unfolding kernel
  kernel_exact f = record {
    complex = λ v x. mul_assoc_mat x (complement (f.at v)).kernel (f.at v) ∙ ap (λ z. x · z) (complement (f.at v)).kernel_kills ∙ mul_zeros x;
    exact = λ v y e. kernel_spans (f.at v) (complement (f.at v)) y e;
  }

  pub cokernel_exact : {X Y : Rep q Q} (f : Hom X Y) → IsExact f (projection (cokernel f))
  unfolding cokernel
  cokernel_exact f = record {
    complex = λ v x. mul_assoc_mat x (f.at v) (complement (f.at v)).cokernel ∙ ap (λ z. x · z) (complement (f.at v)).cokernel_kills ∙ mul_zeros x;
    exact = λ v y e. cokernel_spans (f.at v) (complement (f.at v)) y e;
  }

  -- The universal properties, of any injection onto the kernel and any surjection off the image.
  pub through_kernel : {W N X Y : Rep q Q} (i : Hom N X) (f : Hom X Y) → IsMono i → IsExact i f → (h : Hom W X) → h ≫ f ≡ zero_hom W Y → FactorsBefore i h
  through_kernel i f mono exact h z = through_mono i h mono (λ v x.
      exact.exact v (x · h.at v) (mul_assoc_mat x (h.at v) (f.at v) ∙ ap (λ m. x · m) (complex_zero h f z v) ∙ mul_zeros x))

  pub through_cokernel : {X Y C Z : Rep q Q} (f : Hom X Y) (p : Hom Y C) → IsEpi p → IsExact f p → (h : Hom Y Z) → f ≫ h ≡ zero_hom X Z → FactorsAfter p h
  through_cokernel {X} {Y} {C} {Z} f p epi exact h z = through_epi p h epi (λ v y e. reached v y (exact.exact v y e))
    where
      reached : (v : ℕ) (y : Row q (Y.dim v)) → IsInSpan (f.at v) y → y · h.at v ≡ zeros q 1 (Z.dim v)
      reached v y s = ap (λ m. m · h.at v) (sym s.is) ∙ mul_assoc_mat s.by (f.at v) (h.at v) ∙ ap (λ m. s.by · m) (complex_zero f h z v) ∙ mul_zeros s.by

  pub kernel_universal : {W X Y : Rep q Q} (f : Hom X Y) (h : Hom W X) → h ≫ f ≡ zero_hom W Y → FactorsBefore (inclusion (kernel f)) h
  kernel_universal f h = through_kernel (inclusion (kernel f)) f (inclusion_mono (kernel f)) (kernel_exact f) h

  pub cokernel_universal : {X Y Z : Rep q Q} (f : Hom X Y) (h : Hom Y Z) → f ≫ h ≡ zero_hom X Z → FactorsAfter (projection (cokernel f)) h
  cokernel_universal f h = through_cokernel f (projection (cokernel f)) (projection_epi (cokernel f)) (cokernel_exact f) h

  -- The image: f is a surjection onto it, followed by its inclusion.
  pub image_factor : {X Y : Rep q Q} (f : Hom X Y) → FactorsBefore (inclusion (image f)) f
  unfolding image
  image_factor f = through_mono (inclusion (image f)) f (inclusion_mono (image f)) (λ v x.
      in_span_trans (reduced_form (f.at v)).rows (f.at v) (x · f.at v) (reduced_form (f.at v)).spans (in_span_mul (f.at v) x))

  pub image_reached : {X Y : Rep q Q} (f : Hom X Y) (v : ℕ) → IsInSpan (f.at v) ((inclusion (image f)).at v)
  unfolding image
  image_reached f v = (reduced_form (f.at v)).spanned

  pub image_factor_epi : {X Y : Rep q Q} (f : Hom X Y) → IsEpi (image_factor f).factor
  image_factor_epi {X} {Y} f v y =
      let s = in_span_trans (f.at v) ((inclusion (image f)).at v) (y · (inclusion (image f)).at v) (image_reached f v) (in_span_mul ((inclusion (image f)).at v) y) in
      record {
        by = s.by;
        is = right_inverse_cancels ((inclusion (image f)).at v) (injective_right_inverse ((inclusion (image f)).at v) (inclusion_mono (image f) v)) (s.by · (image_factor f).factor.at v) y
            (mul_assoc_mat s.by ((image_factor f).factor.at v) ((inclusion (image f)).at v)
            ∙ ap (λ z. s.by · z) (sym (compose-at (image_factor f).factor (inclusion (image f)) v) ∙ same-at (image_factor f).is v) ∙ s.is);
      }

  -- Exact at the middle: the two ranks add to the dimension.
  pub exact_size : {X Y Z : Rep q Q} (f : Hom X Y) (g : Hom Y Z) → IsExact f g → (v : ℕ) → rank (f.at v) + rank (g.at v) ≡ Y.dim v
  exact_size {X} {Y} {Z} f g e v =
      ap₂ (λ a b. a + b) (rank_is (rank_factorisation (f.at v))) (rank_is (rank_factorisation (g.at v)))
      ∙ ranks_of_exact (f.at v) (g.at v) (rank_factorisation (f.at v)) (rank_factorisation (g.at v)) (complex_zero f g (IsExact-zero f g e) v) (e.exact v)

  -- Sizes: dimension of the kernel and rank, rank and dimension of the cokernel.
  pub kernel_size : {N X Y : Rep q Q} (i : Hom N X) (f : Hom X Y) → IsMono i → IsExact i f → (v : ℕ) → N.dim v + rank (f.at v) ≡ X.dim v
  kernel_size {N} {X} {Y} i f mono exact v = let sizes = exact_size i f exact v in let whole = rank_right_inverse (i.at v) (injective_right_inverse (i.at v) (mono v)) in omega arith

  pub cokernel_size : {X Y C : Rep q Q} (f : Hom X Y) (p : Hom Y C) → IsEpi p → IsExact f p → (v : ℕ) → rank (f.at v) + C.dim v ≡ Y.dim v
  cokernel_size f p epi exact v = let sizes = exact_size f p exact v in let whole = rank_left_inverse (p.at v) (surjective_left_inverse (p.at v) (epi v)) in omega arith
