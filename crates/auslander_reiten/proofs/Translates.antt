-- The kernel of νd and the cokernel of the transposed of d exist in canonical form, which is unique; their sizes. So each module has a translate and a transpose.
use Rattle.std.proofs.Common.{ℕ, ◌+◌, ◌≡◌, sym, ap, ◌∙◌, List, length}
use Rattle.linear_algebra.specs.Field.{Gf}
use Rattle.linear_algebra.specs.Matrix.{Row, zeros, ◌·◌}
use Rattle.linear_algebra.specs.Rank.{IsInSpan}
use Rattle.linear_algebra.proofs.MatrixLaws.{mul_assoc_mat, mul_zeros}
use Rattle.linear_algebra.proofs.Dimension.{rank}
use Rattle.linear_algebra.proofs.RowFormUnique.{row_form_unique}
use Rattle.linear_algebra.proofs.CoReduced.{coreduced_form}
use Rattle.linear_algebra.proofs.CoReducedUnique.{coreduced_unique}
use Rattle.representations.specs.Quiver.{Quiver, opposite, BoundQuiver, opposite_algebra}
use Rattle.representations.specs.Rep.{Rep, IsMod}
use Rattle.representations.specs.Hom.{Hom}
use Rattle.representations.specs.Dual.{dual}
use Rattle.representations.specs.Submodule.{sub_rep, inclusion, quotient_rep, projection}
use Rattle.representations.specs.KernelOf.{IsKernel, IsCokernel, IsReduced, IsCoReducedProjection}
use Rattle.representations.proofs.MatrixExtras.{span_of_rows}
use Rattle.representations.proofs.Duals.{IsMod-dual}
use Rattle.representations.proofs.Paths.{IsMod-mono, IsMod-epi}
use Rattle.representations.proofs.Submodules.{projection_epi}
use Rattle.representations.proofs.Kernels.{kernel_size, cokernel_size}
use Rattle.projectives.specs.Families.{projectives}
use Rattle.projectives.specs.TwoSided.{TwoSided, other, swap}
use Rattle.projectives.specs.Injective.{injectives}
use Rattle.projectives.specs.Transposed.{transposed, nakayama}
use Rattle.projectives.specs.ReducedSubmodule.{reduced_kernel}
use Rattle.projectives.specs.CanonicalCover.{vertex_in}
use Rattle.projectives.proofs.Families.{projectives_mod}
use Rattle.projectives.proofs.Nakayama.{injectives_mod}
use Rattle.auslander_reiten.specs.ReducedCokernel.{reduced_cokernel}
use Rattle.auslander_reiten.specs.Presentation.{IsMinimalPresentation}
use Rattle.auslander_reiten.specs.Translates.{IsTranslate, IsTranspose, IsInverseTranslate}
use Rattle.auslander_reiten.proofs.AlmostSplitSequences.{kernel_is_reduced, kernel_is_kernel, resolution, minimal_presentation}

module _ {q : Gf} {Q : Quiver} where
  pub cokernel_is_coreduced : {X Y : Rep q Q} (f : Hom X Y) → IsCoReducedProjection (projection (reduced_cokernel f))
  unfolding reduced_cokernel
  cokernel_is_coreduced f w = ((coreduced_form (f.at w)).place, (coreduced_form (f.at w)).coreduced)

  pub cokernel_is_cokernel : {X Y : Rep q Q} (f : Hom X Y) → IsCokernel f (projection (reduced_cokernel f))
  unfolding reduced_cokernel
  cokernel_is_cokernel f = record {
    onto = projection_epi (reduced_cokernel f);
    exact = record {
      complex = λ w x. mul_assoc_mat x (f.at w) (coreduced_form (f.at w)).projection ∙ ap (λ z. x · z) (coreduced_form (f.at w)).kills ∙ mul_zeros x;
      exact = λ w y e. (coreduced_form (f.at w)).spans y e;
    };
  }

  -- Two kernels of one homomorphism, in reduced row form, have the same dimensions and the same matrices of their embeddings.
  kernel_in_span : {N N' X Y : Rep q Q} (i : Hom N X) (j : Hom N' X) (f : Hom X Y) → IsKernel i f → IsKernel j f → (w : ℕ) → IsInSpan (j.at w) (i.at w)
  kernel_in_span i j f a b w = span_of_rows (j.at w) (i.at w) (λ x. b.exact.exact w (x · i.at w) (a.exact.complex w x))

  pub reduced_kernel_once : {N N' X Y : Rep q Q} (i : Hom N X) (j : Hom N' X) (f : Hom X Y) → IsKernel i f → IsReduced i → IsKernel j f → IsReduced j
      → (w : ℕ) → (N.dim w ≡ N'.dim w) × ((r c : ℕ) → (i.at w).at r c ≡ (j.at w).at r c)
  reduced_kernel_once i j f a r b s w = row_form_unique (i.at w) (j.at w) (r w).0 (s w).0 (r w).1 (s w).1 (kernel_in_span i j f a b w) (kernel_in_span j i f b a w)

  -- And two cokernels with co-reduced projections.
  killed_by_other : {X Y N N' : Rep q Q} (f : Hom X Y) (p : Hom Y N) (r : Hom Y N') → IsCokernel f p → IsCokernel f r → (w : ℕ) (y : Row q (Y.dim w)) → y · r.at w ≡ zeros q 1 (N'.dim w) → y · p.at w ≡ zeros q 1 (N.dim w)
  killed_by_other f p r a b w y e = let s = b.exact.exact w y e in ap (λ z. z · p.at w) (sym s.is) ∙ a.exact.complex w s.by

  pub reduced_cokernel_once : {X Y N N' : Rep q Q} (f : Hom X Y) (p : Hom Y N) (r : Hom Y N') → IsCokernel f p → IsCoReducedProjection p → IsCokernel f r → IsCoReducedProjection r
      → (w : ℕ) → (N.dim w ≡ N'.dim w) × ((i j : ℕ) → (p.at w).at i j ≡ (r.at w).at i j)
  reduced_cokernel_once f p r a c b d w = coreduced_unique (p.at w) (r.at w) (c w).0 (d w).0 (c w).1 (d w).1 (killed_by_other f p r a b w) (killed_by_other f r p b a w)

module _ {q : Gf} {A : BoundQuiver} (T : TwoSided q A) (k : ℕ) (v : ℕ → ℕ) (h : ℕ) (u : ℕ → ℕ) (d : Hom (projectives T.words k v) (projectives T.words h u)) where
  -- The kernel of νd: it exists, is a module, and its size at each vertex.
  pub nakayama_kernel : (N : Rep q A.quiver) × (i : Hom N (injectives T k v)) × IsKernel i (nakayama T k v h u d) × IsReduced i
  nakayama_kernel = (
    sub_rep (reduced_kernel (nakayama T k v h u d)),
    inclusion (reduced_kernel (nakayama T k v h u d)),
    kernel_is_kernel (nakayama T k v h u d),
    kernel_is_reduced (nakayama T k v h u d),
  )

  pub nakayama_kernel_module : {N : Rep q A.quiver} (i : Hom N (injectives T k v)) → IsKernel i (nakayama T k v h u d) → IsMod A N
  nakayama_kernel_module i t = IsMod-mono A i t.mono (injectives_mod T k v)

  pub nakayama_kernel_size : {N : Rep q A.quiver} (i : Hom N (injectives T k v)) → IsKernel i (nakayama T k v h u d) → (w : ℕ) → N.dim w + rank ((nakayama T k v h u d).at w) ≡ (injectives T k v).dim w
  nakayama_kernel_size i t w = kernel_size i (nakayama T k v h u d) t.mono t.exact w

  -- The cokernel of the transposed of d.
  pub transposed_cokernel : (N : Rep q (opposite A.quiver)) × (p : Hom (projectives (other T) k v) N) × IsCokernel (transposed T k v h u d) p × IsCoReducedProjection p
  transposed_cokernel = (
    quotient_rep (reduced_cokernel (transposed T k v h u d)),
    projection (reduced_cokernel (transposed T k v h u d)),
    cokernel_is_cokernel (transposed T k v h u d),
    cokernel_is_coreduced (transposed T k v h u d),
  )

  pub transposed_cokernel_module : {N : Rep q (opposite A.quiver)} (p : Hom (projectives (other T) k v) N) → IsCokernel (transposed T k v h u d) p → IsMod (opposite_algebra A) N
  transposed_cokernel_module p t = IsMod-epi (opposite_algebra A) p t.onto (projectives_mod (opposite_algebra A) (other T) T.opposite_basis k v)

  pub transposed_cokernel_size : {N : Rep q (opposite A.quiver)} (p : Hom (projectives (other T) k v) N) → IsCokernel (transposed T k v h u d) p → (w : ℕ) → rank ((transposed T k v h u d).at w) + N.dim w ≡ (projectives (other T) k v).dim w
  transposed_cokernel_size p t w = cokernel_size (transposed T k v h u d) p t.onto t.exact w

-- By each minimal presentation of M there are the translate and the transpose.
module _ {q : Gf} {A : BoundQuiver} (T : TwoSided q A) (k : ℕ) (v : ℕ → ℕ) (h : ℕ) (u : ℕ → ℕ) (M : Rep q A.quiver) (d : Hom (projectives T.words k v) (projectives T.words h u)) (c : Hom (projectives T.words h u) M) (p : IsMinimalPresentation T k v h u d c) where
  pub translate_by : (N : Rep q A.quiver) × (i : Hom N (injectives T k v)) × IsTranslate T k v h u M d c i × IsReduced i
  translate_by = let t = nakayama_kernel T k v h u d in (t.0, t.1, record { presentation = p; kernel = t.2 }, t.3)

  pub transpose_by : (N : Rep q (opposite A.quiver)) × (r : Hom (projectives (other T) k v) N) × IsTranspose T k v h u M d c r × IsCoReducedProjection r
  transpose_by = let t = transposed_cokernel T k v h u d in (t.0, t.1, record { presentation = p; cokernel = t.2 }, t.3)

-- So each module has them.
module _ {q : Gf} {A : BoundQuiver} (T : TwoSided q A) (M : Rep q A.quiver) (m : IsMod A M) where
  abbrev term : ℕ → List ℕ
  term n = (resolution T M m).term n

  pub translate_exists : (k : ℕ) × (v : ℕ → ℕ) × (h : ℕ) × (u : ℕ → ℕ) × (d : Hom (projectives T.words k v) (projectives T.words h u)) × (c : Hom (projectives T.words h u) M)
      × (N : Rep q A.quiver) × (i : Hom N (injectives T k v)) × IsTranslate T k v h u M d c i × IsReduced i
  translate_exists =
      let R = resolution T M m in
      let t = translate_by T (length (term 1)) (vertex_in (term 1)) (length (term 0)) (vertex_in (term 0)) M (R.differential 1) (R.differential 0) (minimal_presentation T M m) in
      (length (term 1), vertex_in (term 1), length (term 0), vertex_in (term 0), R.differential 1, R.differential 0, t.0, t.1, t.2, t.3)

  pub transpose_exists : (k : ℕ) × (v : ℕ → ℕ) × (h : ℕ) × (u : ℕ → ℕ) × (d : Hom (projectives T.words k v) (projectives T.words h u)) × (c : Hom (projectives T.words h u) M)
      × (N : Rep q (opposite A.quiver)) × (p : Hom (projectives (other T) k v) N) × IsTranspose T k v h u M d c p × IsCoReducedProjection p
  transpose_exists =
      let R = resolution T M m in
      let t = transpose_by T (length (term 1)) (vertex_in (term 1)) (length (term 0)) (vertex_in (term 0)) M (R.differential 1) (R.differential 0) (minimal_presentation T M m) in
      (length (term 1), vertex_in (term 1), length (term 0), vertex_in (term 0), R.differential 1, R.differential 0, t.0, t.1, t.2, t.3)

-- The inverse translate of a module.
pub inverse_translate_exists : {q : Gf} {A : BoundQuiver} (T : TwoSided q A) (X : Rep q A.quiver) → IsMod A X
    → (k : ℕ) × (v : ℕ → ℕ) × (h : ℕ) × (u : ℕ → ℕ) × (d : Hom (projectives (other T) k v) (projectives (other T) h u)) × (c : Hom (projectives (other T) h u) (dual X))
    × (N : Rep q A.quiver) × (p : Hom (projectives T.words k v) N) × IsInverseTranslate T k v h u X d c p × IsCoReducedProjection p
inverse_translate_exists {A = A} T X M = transpose_exists (swap T) (dual X) (IsMod-dual A X M)

pub inverse_translate_module : {q : Gf} {A : BoundQuiver} (T : TwoSided q A) (X : Rep q A.quiver) (k : ℕ) (v : ℕ → ℕ) (h : ℕ) (u : ℕ → ℕ) (d : Hom (projectives (other T) k v) (projectives (other T) h u)) (c : Hom (projectives (other T) h u) (dual X))
    {N : Rep q A.quiver} (p : Hom (projectives T.words k v) N) → IsInverseTranslate T k v h u X d c p → IsMod A N
inverse_translate_module {A = A} T X k v h u d c p t = IsMod-epi A p t.cokernel.onto (projectives_mod A T.words T.basis k v)
