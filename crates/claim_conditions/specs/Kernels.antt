-- Kernel and cokernel of a map. (Assem, Simson, Skowroński, volume 1, chapter III, 1, and appendix A, 1.)
use Rattle.std.specs.Prelude.{◌≡◌, List}
use Rattle.fp_linear.specs.Matrix.{PlainMatrix}
use Rattle.path_algebra.specs.declared.Header.{Header}
use Rattle.representations.specs.Hom.{Hom}
use Rattle.representations.specs.KernelOf.{IsKernel, IsCokernel}
use Rattle.module_types.specs.declared.Module.{Module}
use Rattle.module_types.specs.Readings.{read, read_beside}
use Rattle.claim_conditions.specs.Families.{HasMatrices}

-- By the map i : n → a, the module n is the kernel of f : a → b: i is injective, and i and f are exact at a.
pub record KernelHolds (h : Header) (n a b : Module) (f i : List PlainMatrix) : Type 0 where
  pub side : n.side ≡ a.side
  pub target_side : a.side ≡ b.side
  pub inclusion : Hom (read_beside h a n) (read h a)
  pub inclusion_matrices : HasMatrices inclusion i
  pub map : Hom (read h a) (read_beside h a b)
  pub map_matrices : HasMatrices map f
  pub is : IsKernel inclusion map

-- By the map p : b → n, the module n is the cokernel of f : a → b: p is surjective, and f and p are exact at b.
pub record CokernelHolds (h : Header) (n a b : Module) (f p : List PlainMatrix) : Type 0 where
  pub target_side : a.side ≡ b.side
  pub side : b.side ≡ n.side
  pub map : Hom (read h a) (read_beside h a b)
  pub map_matrices : HasMatrices map f
  pub projection : Hom (read_beside h a b) (read_beside h a n)
  pub projection_matrices : HasMatrices projection p
  pub is : IsCokernel map projection
