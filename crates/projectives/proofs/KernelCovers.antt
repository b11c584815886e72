-- Covers of a kernel, in the kernel's own coordinates; the cover of the whole module; pivots do not depend on the way that a form is found.
use Rattle.std.proofs.Common.{ℕ, zero, ◌<◌, ◌≡◌, Bool, true, false, get_or, refl, sym, ap, ◌∙◌, arith}
use Rattle.std.proofs.lemmas.Bool.{true_from_ne_false, false_from_ne_true, false≢true}
use Rattle.linear_algebra.specs.Field.{Gf}
use Rattle.linear_algebra.specs.Matrix.{Mat, Row, ◌·◌}
use Rattle.linear_algebra.specs.Parts.{row, unit}
use Rattle.linear_algebra.specs.Rank.{IsInSpan}
use Rattle.linear_algebra.specs.RowForm.{IsRowReduced}
use Rattle.linear_algebra.proofs.MatrixLaws.{mul_assoc_mat, zeros_mul}
use Rattle.linear_algebra.proofs.PartsLaws.{row-at, unit-row}
use Rattle.linear_algebra.proofs.Solving.{injective_right_inverse, right_inverse_cancels, row_in_span, in_span_trans}
use Rattle.linear_algebra.proofs.RowForm.{reduced_form}
use Rattle.linear_algebra.proofs.RowFormUnique.{first_at_pivot}
use Rattle.representations.specs.Quiver.{Quiver, BoundQuiver}
use Rattle.representations.specs.Rep.{Rep, IsMod}
use Rattle.representations.specs.Hom.{Hom}
use Rattle.representations.specs.Module.{IsMono, IsEpi, IsExact}
use Rattle.representations.specs.Factoring.{FactorsBefore}
use Rattle.representations.specs.RadicalModule.{arrow_rows}
use Rattle.representations.specs.Submodule.{sub_rep}
use Rattle.representations.proofs.Homs.{compose-at, same-at}
use Rattle.representations.proofs.Factoring.{through_mono}
use Rattle.representations.proofs.RepEqual.{Rep-eq}
use Rattle.projectives.specs.Words.{Words, IsWordBasis}
use Rattle.projectives.specs.Families.{projectives, generator_of}
use Rattle.projectives.specs.Generators.{IsIndependentModuloRadical}
use Rattle.projectives.specs.Covers.{KernelInRadical}
use Rattle.projectives.specs.HomRows.{value}
use Rattle.projectives.specs.Canonical.{is_among, is_pivot, canonical_vertices, canonical_columns}
use Rattle.projectives.specs.ReducedSubmodule.{whole}
use Rattle.projectives.specs.CanonicalCover.{vertex_in, IsCanonicalCover}
use Rattle.projectives.proofs.Covers.{minimal_of_independent, independent_of_minimal}
use Rattle.projectives.proofs.CanonicalRows.{is_among-true, is_among-false, independent_same}
use Rattle.projectives.proofs.CanonicalCovers.{canonical_cover, canonical_cover-value}

module _ {q : Gf} (A : BoundQuiver) (W : Words q A.quiver) (B : IsWordBasis A W) (k : ℕ) (v : ℕ → ℕ) {N X Y : Rep q A.quiver} (i : Hom N X) (mono : IsMono i) (d : Hom X Y) (inclusion : IsExact i d)
    (f : Hom (projectives W k v) X) (exact : IsExact f d) where
  onto_kernel : FactorsBefore i f
  onto_kernel = through_mono i f mono (λ w x. inclusion.exact w (x · f.at w) (exact.complex w x))

  factor_rows : (w : ℕ) (x : Row q ((projectives W k v).dim w)) → x · onto_kernel.factor.at w · i.at w ≡ x · f.at w
  factor_rows w x =
      mul_assoc_mat x (onto_kernel.factor.at w) (i.at w) ∙ ap (λ z. x · z) (sym (compose-at onto_kernel.factor i w) ∙ same-at onto_kernel.is w)

  factor_epi : IsEpi onto_kernel.factor
  factor_epi w y =
      let s = exact.exact w (y · i.at w) (inclusion.complex w y) in
      record { by = s.by; is = right_inverse_cancels (i.at w) (injective_right_inverse (i.at w) (mono w)) (s.by · onto_kernel.factor.at w) y (factor_rows w s.by ∙ s.is) }

  factor_kernel : KernelInRadical f → KernelInRadical onto_kernel.factor
  factor_kernel h w x e = h w x (sym (factor_rows w x) ∙ ap (λ z. z · i.at w) e ∙ zeros_mul (i.at w))

  kernel_of_factor : KernelInRadical onto_kernel.factor → KernelInRadical f
  kernel_of_factor h w x e = h w x (mono w (x · onto_kernel.factor.at w) (factor_rows w x ∙ e))

  -- Rows of the kernel that are the values of the generators.
  module _ (x : (j : ℕ) → Row q (N.dim (v j))) (values : (j : ℕ) → j < k → x j · i.at (v j) ≡ value A W B k v f j) where
    factor_values : (j : ℕ) → j < k → value A W B k v onto_kernel.factor j ≡ x j
    factor_values j h = right_inverse_cancels (i.at (v j)) (injective_right_inverse (i.at (v j)) (mono (v j))) _ (x j)
        (factor_rows (v j) (generator_of A W B k v j) ∙ sym (values j h))

    pub kernel_minimal_of_independent : IsIndependentModuloRadical N k v x → KernelInRadical f
    kernel_minimal_of_independent independent = kernel_of_factor (minimal_of_independent A W B k v N onto_kernel.factor
        (independent_same N k v x (value A W B k v onto_kernel.factor) (λ j h. sym (factor_values j h)) independent))

    pub independent_of_kernel_minimal : KernelInRadical f → IsIndependentModuloRadical N k v x
    independent_of_kernel_minimal h = independent_same N k v (value A W B k v onto_kernel.factor) x factor_values
        (independent_of_minimal A W B k v N onto_kernel.factor factor_epi (factor_kernel h))

-- The whole module as a submodule is the module.
pub whole_rep : {q : Gf} {Q : Quiver} (X : Rep q Q) → sub_rep (whole X) ≡ X
whole_rep X = Rep-eq (sub_rep (whole X)) X (λ v. refl) (λ a i j. refl)

pub canonical_cover_whole : {q : Gf} (A : BoundQuiver) (W : Words q A.quiver) (B : IsWordBasis A W) (X : Rep q A.quiver) (M : IsMod A X) → IsCanonicalCover A W B (whole X) (canonical_vertices X) (canonical_cover A W B X M)
canonical_cover_whole {q} A W B X M = record {
  vertices = ap canonical_vertices (sym (whole_rep X));
  generators = λ j h.
      canonical_cover-value A W B X M j h
      ∙ ap (λ Y. unit q (X.dim (vertex_in (canonical_vertices X) j)) (get_or (canonical_columns Y) j zero)) (sym (whole_rep X))
      ∙ unit-row q (X.dim (vertex_in (canonical_vertices X) j)) (get_or (canonical_columns (sub_rep (whole X))) j zero);
}

-- Two matrices in reduced row form with the same span have the same pivots.
module _ {q : Gf} {m k n : ℕ} (a : Mat q m n) (b : Mat q k n) (p r : ℕ → ℕ) (d : IsRowReduced a p) (e : IsRowReduced b r) where
  pivot_in : IsInSpan b a → (c : ℕ) → is_among m p c ≡ true → is_among k r c ≡ true
  pivot_in s c t =
      let i = is_among-true m p c t in
      let f = first_at_pivot b r e (row i.0 a) (p i.0) (row_in_span b a i.0 s) (λ z. not_one (sym (row-at i.0 a (p i.0) ∙ d.one i.0 i.1) ∙ z)) (λ t l. row-at i.0 a t ∙ d.before i.0 t i.1 l) in
      true_from_ne_false (is_among k r c) (λ x. is_among-false k r c x f.0 f.1 (f.2 ∙ i.2))
    where
      not_one : 1 ≡ zero → ⊥
      not_one x = omega arith

pub pivots_once : {q : Gf} {m k n : ℕ} (a : Mat q m n) (b : Mat q k n) (p r : ℕ → ℕ) → IsRowReduced a p → IsRowReduced b r → IsInSpan b a → IsInSpan a b → (c : ℕ) → is_among m p c ≡ is_among k r c
pivots_once {q} {m} {k} a b p r d e s t c = by_case (is_among m p c) refl
  where
    by_case : (x : Bool) → is_among m p c ≡ x → is_among m p c ≡ is_among k r c
    by_case true x = x ∙ sym (pivot_in a b p r d e s c x)
    by_case false x = x ∙ sym (false_from_ne_true (is_among k r c) (λ y. false≢true (sym x ∙ pivot_in b a r p e d t c y)))

-- So the pivots of the radical are those of any reduced row form with its span.
pub is_pivot-of : {q : Gf} {Q : Quiver} (X : Rep q Q) (w : ℕ) {m : ℕ} (b : Mat q m (X.dim w)) (pivot : ℕ → ℕ) → IsRowReduced b pivot → IsInSpan b (arrow_rows X w) → IsInSpan (arrow_rows X w) b → (c : ℕ) → is_pivot X w c ≡ is_among m pivot c
unfolding is_pivot
is_pivot-of X w b pivot d s t c =
    pivots_once (reduced_form (arrow_rows X w)).rows b (reduced_form (arrow_rows X w)).pivot pivot (reduced_form (arrow_rows X w)).reduced d
    (in_span_trans b (arrow_rows X w) (reduced_form (arrow_rows X w)).rows s (reduced_form (arrow_rows X w)).spanned)
    (in_span_trans (reduced_form (arrow_rows X w)).rows (arrow_rows X w) b (reduced_form (arrow_rows X w)).spans t) c
