-- A module as the direct sum of local modules. (Assem, Simson, Skowroński, volume 1, chapter I, 4.)
use Rattle.std.specs.Prelude.{ℕ, ◌≡◌, ◌<◌, List, All, length}
use Rattle.fp_linear.specs.Matrix.{PlainMatrix}
use Rattle.path_algebra.specs.declared.Header.{Header}
use Rattle.representations.specs.Rep.{Rep}
use Rattle.representations.specs.Hom.{Hom, identity, ◌≫◌}
use Rattle.representations.specs.Sum.{sum_family}
use Rattle.local_modules.specs.Local.{IsLocal}
use Rattle.module_types.specs.declared.Module.{Module}
use Rattle.module_types.specs.Algebras.{algebra_at}
use Rattle.module_types.specs.Readings.{read, read_beside}
use Rattle.module_types.specs.Written.{part_at}
use Rattle.claim_conditions.specs.Families.{HasMatrices}

-- s and the parts have the side of a, as `objects` asks
pub record HaveSideOf (a s : Module) (parts : List Module) : Type 0 where
  pub whole : s.side ≡ a.side
  pub each : All (λ (m : Module). m.side ≡ a.side) parts

-- part i, read on the side of a
abbrev pub part_beside : (h : Header) (a : Module) (parts : List Module) → ℕ → Rep h.field (algebra_at a.side h).quiver
part_beside h a parts i = part_at h.field (algebra_at a.side h).quiver a.side parts i

-- The module s is the direct sum of the parts, with their matrices as blocks in their order, as `sum` asks. Of no parts it is zero.
abbrev pub IsSumOf : (h : Header) (a s : Module) (parts : List Module) → Type 0
IsSumOf h a s parts = read_beside h a s ≡ sum_family (length parts) (part_beside h a parts)

-- s and the parts have the side of a, the maps to : s → a and back : a → s are inverse to one another, s is the direct sum of the parts, and each part is
-- local.
pub record DecompositionHolds (h : Header) (a s : Module) (parts : List Module) (to back : List PlainMatrix) : Type 0 where
  pub sides : HaveSideOf a s parts
  pub isomorphism : Hom (read_beside h a s) (read h a)
  pub isomorphism_matrices : HasMatrices isomorphism to
  pub inverse : Hom (read h a) (read_beside h a s)
  pub inverse_matrices : HasMatrices inverse back
  pub there : isomorphism ≫ inverse ≡ identity (read_beside h a s)
  pub again : inverse ≫ isomorphism ≡ identity (read h a)
  pub sum : IsSumOf h a s parts
  pub local : (i : ℕ) → i < length parts → IsLocal (part_beside h a parts i)
