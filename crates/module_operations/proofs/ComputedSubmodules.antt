-- Kernels, images and radicals on the spaces that are computed.
use Rattle.std.proofs.Common.{ℕ, ◌≡◌, List, sym, ap, ◌∙◌, refl, arith, subst}
use Rattle.linear_algebra.specs.Matrix.{Mat, zeros, ◌·◌}
use Rattle.linear_algebra.specs.MatrixLaws.{mul_assoc_mat, mul_zeros, zeros_mul}
use Rattle.linear_algebra.specs.Rank.{IsInSpan}
use Rattle.linear_algebra.proofs.Dimension.{complement, kernel_spans}
use Rattle.linear_algebra.proofs.Solving.{in_span_trans}
use Rattle.fp_linear.specs.Matrix.{PlainMatrix}
use Rattle.path_algebra.specs.declared.Header.{Header}
use Rattle.path_algebra.specs.Allowed.{IsAllowed}
use Rattle.representations.specs.Rep.{Rep}
use Rattle.representations.specs.Hom.{Hom}
use Rattle.representations.specs.Module.{IsExact}
use Rattle.representations.specs.RadicalModule.{arrow_rows, arrow_rows_have}
use Rattle.module_types.specs.declared.Module.{Module}
use Rattle.module_types.specs.declared.Side.{Side}
use Rattle.module_types.specs.Algebras.{algebra_at}
use Rattle.module_types.specs.Readings.{rep_of, read, read_beside, family_of, IsHom}
use Rattle.module_types.specs.Shapes.{IsMap, AreMatrices}
use Rattle.module_checks.proofs.Sides.{arrows_at, source_inside, target_inside}
use Rattle.module_operations.specs.ArrowSpans.{arrow_size, arrow_family}
use Rattle.module_faults.specs.ModuleFaults.{IsSmallModule}
use Rattle.module_faults.specs.MapFaults.{IsSmallMap}
use Rattle.module_operations.specs.Computed.{IsKernelBy, IsImageBy, IsRadicalBy}
use Rattle.module_operations.specs.VertexSpaces.{AreSubspaces, IsSubmoduleOn, HaveForms, kernel_size, kernel_family}
use Rattle.module_operations.proofs.FormSpaces.{forms_subspaces, embedding, embedding_form, embedding_reduced, embedding_mono, submodule_small, embedding_small}

-- What the rows of a module's arrows ask of the spaces.
pub are_subspaces : (h : Header) (a : Module) (size : ℕ → ℕ) (g : (v : ℕ) → Mat h.field (size v) ((read h a).dim v)) (bases : List PlainMatrix) → IsAllowed h → HaveForms (read h a) size g (algebra_at a.side h).quiver.vertices bases
    → ((r : ℕ) → IsInSpan (g ((algebra_at a.side h).quiver.target r)) (g ((algebra_at a.side h).quiver.source r) · (read h a).mat r)) → AreSubspaces (read h a) bases
are_subspaces h a size g bases allowed H stable =
    let e = arrows_at a.side h in
    forms_subspaces (read h a) size g bases H (λ r l. source_inside a.side h allowed.quiver.ends r (omega arith)) (λ r l. target_inside a.side h allowed.quiver.ends r (omega arith)) (λ r l. stable r)

module _ (h : Header) (a b : Module) (f : List PlainMatrix) (map : IsSmallMap h a b f) where
  abbrev X : Rep h.field (algebra_at a.side h).quiver
  X = read h a

  abbrev Y : Rep h.field (algebra_at a.side h).quiver
  Y = read_beside h a b

  pub kernel_stable : (r : ℕ) → IsInSpan (kernel_family X Y f ((algebra_at a.side h).quiver.target r)) (kernel_family X Y f ((algebra_at a.side h).quiver.source r) · X.mat r)
  kernel_stable r =
      let s = (algebra_at a.side h).quiver.source r in
      let t = (algebra_at a.side h).quiver.target r in
      let C = complement (family_of X Y f s) in
      kernel_spans (family_of X Y f t) (complement (family_of X Y f t)) (C.kernel · X.mat r)
      (mul_assoc_mat C.kernel (X.mat r) (family_of X Y f t) ∙ ap (λ z. C.kernel · z) (map.holds.hom r) ∙ sym (mul_assoc_mat C.kernel (family_of X Y f s) (Y.mat r)) ∙ ap (λ z. z · Y.mat r) C.kernel_kills ∙ zeros_mul (Y.mat r))

  module _ (n : Module) (bases : List PlainMatrix) (small : IsSmallModule h a) (S : IsSubmoduleOn h a n bases) (H : HaveForms X (kernel_size X Y f) (kernel_family X Y f) (algebra_at a.side h).quiver.vertices bases) where
    abbrev i : Hom (read_beside h a n) X
    i = embedding h a n bases (kernel_size X Y f) (kernel_family X Y f) small S H

    abbrev m : Hom X Y
    m = record { at = family_of X Y f; square = map.holds.hom }

    killed : (w : ℕ) → i.at w · m.at w ≡ zeros h.field ((read_beside h a n).dim w) (Y.dim w)
    killed w =
        let F = embedding_form h a n bases (kernel_size X Y f) (kernel_family X Y f) small S H w in
        let C = complement (family_of X Y f w) in
        ap (λ z. z · family_of X Y f w) (sym F.spanned.is) ∙ mul_assoc_mat F.spanned.by C.kernel (family_of X Y f w) ∙ ap (λ z. F.spanned.by · z) C.kernel_kills ∙ mul_zeros F.spanned.by

    kernel_exact : IsExact i m
    kernel_exact = record {
      complex = λ w x. mul_assoc_mat x (i.at w) (m.at w) ∙ ap (λ z. x · z) (killed w) ∙ mul_zeros x;
      exact = λ w y e.
          let F = embedding_form h a n bases (kernel_size X Y f) (kernel_family X Y f) small S H w in
          in_span_trans (i.at w) (kernel_family X Y f w) y F.spans (kernel_spans (family_of X Y f w) (complement (family_of X Y f w)) y e);
    }

    pub kernel_by : IsKernelBy h a b n f bases
    kernel_by = record {
      small = submodule_small h a n bases (kernel_size X Y f) (kernel_family X Y f) small S H;
      matrices = embedding_small h a n bases (kernel_size X Y f) (kernel_family X Y f) small S H;
      holds = record {
        side = S.side;
        target_side = map.holds.side;
        inclusion = i;
        inclusion_matrices = λ w. refl;
        map = m;
        map_matrices = λ w. refl;
        is = record { mono = embedding_mono h a n bases (kernel_size X Y f) (kernel_family X Y f) small S H; exact = kernel_exact };
      };
      reduced = embedding_reduced h a n bases (kernel_size X Y f) (kernel_family X Y f) small S H;
    }

-- The image, read on the side of the module that f goes to.
module _ (h : Header) (a b : Module) (f : List PlainMatrix) (map : IsSmallMap h a b f) where
  abbrev pub A : Rep h.field (algebra_at b.side h).quiver
  A = read_beside h b a

  abbrev pub B : Rep h.field (algebra_at b.side h).quiver
  B = read h b

  pub map_across : IsHom A B (family_of A B f)
  map_across = subst (λ (s : Side). IsHom (rep_of h.field (algebra_at s h).quiver a) (rep_of h.field (algebra_at s h).quiver b) (family_of (rep_of h.field (algebra_at s h).quiver a) (rep_of h.field (algebra_at s h).quiver b) f)) map.holds.side map.holds.hom

  pub shape_across : AreMatrices h.field (algebra_at b.side h).quiver.vertices A.dim B.dim f
  shape_across = subst (λ (s : Side). IsMap h.field (algebra_at s h).quiver a b f) map.holds.side map.shape

  pub image_stable : (r : ℕ) → IsInSpan (family_of A B f ((algebra_at b.side h).quiver.target r)) (family_of A B f ((algebra_at b.side h).quiver.source r) · B.mat r)
  image_stable r = record { by = A.mat r; is = map_across r }

  module _ (n : Module) (bases : List PlainMatrix) (small : IsSmallModule h b) (S : IsSubmoduleOn h b n bases) (H : HaveForms B A.dim (family_of A B f) (algebra_at b.side h).quiver.vertices bases) where
    pub image_by : IsImageBy h a b n f bases
    image_by = record {
      small = submodule_small h b n bases A.dim (family_of A B f) small S H;
      matrices = embedding_small h b n bases A.dim (family_of A B f) small S H;
      holds = record {
        source_side = map.holds.side;
        side = S.side;
        map = record { at = family_of A B f; square = map_across };
        map_matrices = λ w. refl;
        inclusion = embedding h b n bases A.dim (family_of A B f) small S H;
        inclusion_matrices = λ w. refl;
        mono = embedding_mono h b n bases A.dim (family_of A B f) small S H;
        within = λ w. (embedding_form h b n bases A.dim (family_of A B f) small S H w).spanned;
        has = λ w. (embedding_form h b n bases A.dim (family_of A B f) small S H w).spans;
      };
      reduced = embedding_reduced h b n bases A.dim (family_of A B f) small S H;
    }

-- The radical.
module _ (h : Header) (a : Module) where
  pub arrows_stable : (r : ℕ) → IsInSpan (arrow_family (read h a) ((algebra_at a.side h).quiver.target r)) (arrow_family (read h a) ((algebra_at a.side h).quiver.source r) · (read h a).mat r)
  arrows_stable r = arrow_rows_have (read h a) r (arrow_rows (read h a) ((algebra_at a.side h).quiver.source r))

  module _ (n : Module) (bases : List PlainMatrix) (small : IsSmallModule h a) (S : IsSubmoduleOn h a n bases) (H : HaveForms (read h a) (arrow_size (read h a)) (arrow_family (read h a)) (algebra_at a.side h).quiver.vertices bases) where
    pub radical_by : IsRadicalBy h a n bases
    radical_by = record {
      small = submodule_small h a n bases (arrow_size (read h a)) (arrow_family (read h a)) small S H;
      matrices = embedding_small h a n bases (arrow_size (read h a)) (arrow_family (read h a)) small S H;
      holds = record {
        side = S.side;
        inclusion = embedding h a n bases (arrow_size (read h a)) (arrow_family (read h a)) small S H;
        inclusion_matrices = λ w. refl;
        is = record {
          mono = embedding_mono h a n bases (arrow_size (read h a)) (arrow_family (read h a)) small S H;
          within = λ w. (embedding_form h a n bases (arrow_size (read h a)) (arrow_family (read h a)) small S H w).spanned;
          has = λ w. (embedding_form h a n bases (arrow_size (read h a)) (arrow_family (read h a)) small S H w).spans;
        };
      };
      reduced = embedding_reduced h a n bases (arrow_size (read h a)) (arrow_family (read h a)) small S H;
    }
