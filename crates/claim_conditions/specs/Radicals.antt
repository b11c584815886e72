-- The radical of a module. (Assem, Simson, Skowroński, volume 1, chapter III, 2.2.)
use Rattle.std.specs.Prelude.{◌≡◌, List}
use Rattle.fp_linear.specs.Matrix.{PlainMatrix}
use Rattle.path_algebra.specs.declared.Header.{Header}
use Rattle.representations.specs.Hom.{Hom}
use Rattle.representations.specs.RadicalOf.{IsRadical}
use Rattle.module_types.specs.declared.Module.{Module}
use Rattle.module_types.specs.Readings.{read, read_beside}
use Rattle.claim_conditions.specs.Families.{HasMatrices}

-- By the map i : n → a, the module n is the radical of a: i is injective, and the rows that it reaches are the sums of rows that come along arrows.
pub record RadicalHolds (h : Header) (n a : Module) (i : List PlainMatrix) : Type 0 where
  pub side : n.side ≡ a.side
  pub inclusion : Hom (read_beside h a n) (read h a)
  pub inclusion_matrices : HasMatrices inclusion i
  pub is : IsRadical inclusion
