-- The image of a homomorphism by an embedding, and the top of a module by a projection.
-- (Assem, Simson, Skowroński, volume 1, chapter I, 3, and III, 1 and 2.)
use Rattle.std.specs.Prelude.{ℕ, ◌≡◌, List}
use Rattle.linear_algebra.specs.Matrix.{Row, zeros, ◌·◌}
use Rattle.linear_algebra.specs.Rank.{IsInSpan}
use Rattle.fp_linear.specs.Matrix.{PlainMatrix}
use Rattle.path_algebra.specs.declared.Header.{Header}
use Rattle.representations.specs.Hom.{Hom}
use Rattle.representations.specs.Module.{IsMono, IsEpi}
use Rattle.representations.specs.RadicalModule.{arrow_rows}
use Rattle.module_types.specs.declared.Module.{Module}
use Rattle.module_types.specs.Readings.{read, read_beside}
use Rattle.claim_conditions.specs.Families.{HasMatrices}

-- By the map i : n → b, the module n is the image of f : a → b: i is injective and reaches just the rows that f reaches. All are read on the side of b.
pub record ImageHolds (h : Header) (n a b : Module) (f i : List PlainMatrix) : Type 0 where
  pub source_side : a.side ≡ b.side
  pub side : n.side ≡ b.side
  pub map : Hom (read_beside h b a) (read h b)
  pub map_matrices : HasMatrices map f
  pub inclusion : Hom (read_beside h b n) (read h b)
  pub inclusion_matrices : HasMatrices inclusion i
  pub mono : IsMono inclusion
  pub within : (w : ℕ) → IsInSpan (map.at w) (inclusion.at w)
  pub has : (w : ℕ) → IsInSpan (inclusion.at w) (map.at w)

-- By the map p : a → n, the module n is the top of a: p is surjective and takes to zero just the rows in the radical.
pub record TopHolds (h : Header) (n a : Module) (p : List PlainMatrix) : Type 0 where
  pub side : a.side ≡ n.side
  pub projection : Hom (read h a) (read_beside h a n)
  pub projection_matrices : HasMatrices projection p
  pub onto : IsEpi projection
  pub kills : (w : ℕ) (x : Row h.field ((read h a).dim w)) → IsInSpan (arrow_rows (read h a) w) x → x · projection.at w ≡ zeros h.field 1 ((read_beside h a n).dim w)
  pub vanishes : (w : ℕ) (x : Row h.field ((read h a).dim w)) → x · projection.at w ≡ zeros h.field 1 ((read_beside h a n).dim w) → IsInSpan (arrow_rows (read h a) w) x
