-- Printed matrices of a homomorphism: they are one, and they are a kernel or a cokernel where it is.
use Rattle.std.proofs.Common.{ℕ, ◌≡◌, ◌+◌, List, sym, ap, ◌∙◌, subst}
use Rattle.linear_algebra.specs.Field.{Gf}
use Rattle.linear_algebra.specs.Matrix.{Mat, ◌·◌}
use Rattle.linear_algebra.specs.Ranks.{rank}
use Rattle.linear_algebra.specs.RowForm.{IsRowReduced, IsCoReduced}
use Rattle.fp_linear.specs.Matrix.{PlainMatrix}
use Rattle.representations.specs.Quiver.{Quiver}
use Rattle.representations.specs.Rep.{Rep}
use Rattle.representations.specs.Hom.{Hom}
use Rattle.representations.specs.Module.{IsMono, IsEpi, IsExact}
use Rattle.representations.proofs.Kernels.{kernel_size, cokernel_size, IsExact-zero, complex_zero}
use Rattle.module_types.specs.Readings.{family_of, IsHom}
use Rattle.claim_conditions.specs.Families.{Family, AreReduced, AreCoReduced, ComposeToZero, HasKernelSize, HasCokernelSize, HasMatrices}

pub printed_hom : {q : Gf} {Q : Quiver} {X Y : Rep q Q} (f : Hom X Y) (matrices : List PlainMatrix) → HasMatrices f matrices → IsHom X Y (family_of X Y matrices)
printed_hom {Q = Q} {X = X} {Y = Y} f matrices e a = ap (λ z. X.mat a · z) (sym (e (Q.target a))) ∙ f.square a ∙ ap (λ z. z · Y.mat a) (e (Q.source a))

module _ {q : Gf} {Q : Quiver} {X Y : Rep q Q} (f : Hom X Y) (matrices : List PlainMatrix) (e : HasMatrices f matrices) where
  pub matrices_reduced : AreReduced X Y f.at → AreReduced X Y (family_of X Y matrices)
  matrices_reduced r w = ((r w).0, subst (λ (z : Mat q (X.dim w) (Y.dim w)). IsRowReduced z (r w).0) (e w) (r w).1)

  pub matrices_coreduced : AreCoReduced X Y f.at → AreCoReduced X Y (family_of X Y matrices)
  matrices_coreduced r w = ((r w).0, subst (λ (z : Mat q (X.dim w) (Y.dim w)). IsCoReduced z (r w).0) (e w) (r w).1)

module _ {q : Gf} {Q : Quiver} {X Y Z : Rep q Q} (f : Hom X Y) (g : Hom Y Z) (exact : IsExact f g) where
  -- the composite, and the sizes where f is injective or g is surjective
  pub exact_zero : (a : Family X Y) (b : Family Y Z) → ((w : ℕ) → f.at w ≡ a w) → ((w : ℕ) → g.at w ≡ b w) → ComposeToZero X Y Z a b
  exact_zero a b d e w = ap (λ z. z · b w) (sym (d w)) ∙ ap (λ z. f.at w · z) (sym (e w)) ∙ complex_zero f g (IsExact-zero f g exact) w

  pub exact_kernel_size : IsMono f → (b : Family Y Z) → ((w : ℕ) → g.at w ≡ b w) → HasKernelSize X Y Z b
  exact_kernel_size m b e w = ap (λ z. X.dim w + rank z) (sym (e w)) ∙ kernel_size f g m exact w

  pub exact_cokernel_size : IsEpi g → (a : Family X Y) → ((w : ℕ) → f.at w ≡ a w) → HasCokernelSize X Y Z a
  exact_cokernel_size m a d w = ap (λ z. rank z + Z.dim w) (sym (d w)) ∙ cokernel_size f g m exact w
