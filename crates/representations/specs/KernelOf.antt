-- Kernels and cokernels by their maps. (Assem, Simson, Skowroński, volume 1, chapter III, 1, and appendix A, 1.)
use Rattle.std.specs.Prelude.{ℕ}
use Rattle.linear_algebra.specs.Field.{Gf}
use Rattle.linear_algebra.specs.RowForm.{IsRowReduced, IsCoReduced}
use Rattle.representations.specs.Quiver.{Quiver}
use Rattle.representations.specs.Rep.{Rep}
use Rattle.representations.specs.Hom.{Hom}
use Rattle.representations.specs.Module.{IsMono, IsEpi, IsExact}

-- N is the kernel of f, by the embedding i; N is the cokernel of f, by the projection p.
pub record IsKernel {q : Gf} {Q : Quiver} {N X Y : Rep q Q} (i : Hom N X) (f : Hom X Y) : Type 0 where
  pub mono : IsMono i
  pub exact : IsExact i f

pub record IsCokernel {q : Gf} {Q : Quiver} {X Y N : Rep q Q} (f : Hom X Y) (p : Hom Y N) : Type 0 where
  pub onto : IsEpi p
  pub exact : IsExact f p

-- An embedding in reduced row form, and a co-reduced projection, at each vertex.
abbrev pub IsReduced : {q : Gf} {Q : Quiver} {N X : Rep q Q} → Hom N X → Type 0
IsReduced i = (w : ℕ) → (pivot : ℕ → ℕ) × IsRowReduced (i.at w) pivot

abbrev pub IsCoReducedProjection : {q : Gf} {Q : Quiver} {X N : Rep q Q} → Hom X N → Type 0
IsCoReducedProjection p = (w : ℕ) → (place : ℕ → ℕ) × IsCoReduced (p.at w) place
