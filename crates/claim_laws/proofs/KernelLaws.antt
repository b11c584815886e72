-- The conditions on a kernel and on a cokernel suffice, and each kernel and cokernel in reduced form meets them.
use Rattle.std.proofs.Common.{List, refl, sym}
use Rattle.fp_linear.specs.Matrix.{PlainMatrix}
use Rattle.path_algebra.specs.declared.Header.{Header}
use Rattle.representations.proofs.KernelsBySize.{kernel_by_reduced, cokernel_by_coreduced}
use Rattle.module_types.specs.declared.Module.{Module}
use Rattle.module_types.specs.Readings.{read, read_beside, family_of, hom_by}
use Rattle.claim_conditions.specs.Conditions.{AllHold}
use Rattle.claim_conditions.specs.Families.{AreReduced, AreCoReduced}
use Rattle.claim_conditions.specs.Modules.{MapHolds}
use Rattle.claim_conditions.specs.Kernels.{KernelHolds, CokernelHolds}
use Rattle.claim_conditions.specs.KernelConditions.{kernel_conditions, cokernel_conditions}
use Rattle.claim_laws.proofs.Sides.{hom_at}
use Rattle.claim_laws.proofs.PrintedMaps.{matrices_reduced, matrices_coreduced, exact_zero, exact_kernel_size, exact_cokernel_size}

module _ (named : Type 0) (h : Header) (n a b : Module) (f : List PlainMatrix) where
  pub kernel_suffices : (i : List PlainMatrix) → MapHolds h n a i → MapHolds h a b f → AllHold (kernel_conditions named h n a b f i) → KernelHolds h n a b f i
  kernel_suffices i m k c =
      let inclusion = hom_by (read_beside h a n) (read h a) (family_of (read_beside h a n) (read h a) i) (hom_at h n a i a.side m.side m) in
      let map = hom_by (read h a) (read_beside h a b) (family_of (read h a) (read_beside h a b) f) k.hom in
      record {
        side = m.side;
        target_side = k.side;
        inclusion = inclusion;
        inclusion_matrices = λ w. refl;
        map = map;
        map_matrices = λ w. refl;
        is = kernel_by_reduced inclusion map c.1.0 c.1.1.0 c.1.1.1.0;
      }

  pub kernel_complete : (i : List PlainMatrix) → named → (k : KernelHolds h n a b f i) → AreReduced (read_beside h a n) (read h a) k.inclusion.at → AllHold (kernel_conditions named h n a b f i)
  kernel_complete i o k r = (
    o,
    (
      matrices_reduced k.inclusion i k.inclusion_matrices r,
      (exact_zero k.inclusion k.map k.is.exact _ _ k.inclusion_matrices k.map_matrices, (exact_kernel_size k.inclusion k.map k.is.exact k.is.mono _ k.map_matrices, tt)),
    ),
  )

  pub cokernel_suffices : (p : List PlainMatrix) → MapHolds h a b f → MapHolds h b n p → AllHold (cokernel_conditions named h n a b f p) → CokernelHolds h n a b f p
  cokernel_suffices p k m c =
      let map = hom_by (read h a) (read_beside h a b) (family_of (read h a) (read_beside h a b) f) k.hom in
      let projection = hom_by (read_beside h a b) (read_beside h a n) (family_of (read_beside h a b) (read_beside h a n) p) (hom_at h b n p a.side (sym k.side) m) in
      record {
        target_side = k.side;
        side = m.side;
        map = map;
        map_matrices = λ w. refl;
        projection = projection;
        projection_matrices = λ w. refl;
        is = cokernel_by_coreduced map projection c.1.0 c.1.1.0 c.1.1.1.0;
      }

  pub cokernel_complete : (p : List PlainMatrix) → named → (k : CokernelHolds h n a b f p) → AreCoReduced (read_beside h a b) (read_beside h a n) k.projection.at → AllHold (cokernel_conditions named h n a b f p)
  cokernel_complete p o k r = (
    o,
    (
      matrices_coreduced k.projection p k.projection_matrices r,
      (exact_zero k.map k.projection k.is.exact _ _ k.map_matrices k.projection_matrices, (exact_cokernel_size k.map k.projection k.is.exact k.is.onto _ k.map_matrices, tt)),
    ),
  )
