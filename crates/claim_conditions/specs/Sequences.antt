-- Almost split sequences. (Assem, Simson, Skowroński, volume 1, chapter IV, 1.)
use Rattle.std.specs.Prelude.{◌≡◌, List}
use Rattle.fp_linear.specs.Matrix.{PlainMatrix}
use Rattle.path_algebra.specs.declared.Header.{Header}
use Rattle.representations.specs.Hom.{Hom}
use Rattle.auslander_reiten.specs.AlmostSplit.{IsAlmostSplit}
use Rattle.module_types.specs.declared.Module.{Module}
use Rattle.module_types.specs.Algebras.{algebra_at}
use Rattle.module_types.specs.Readings.{read, read_beside}
use Rattle.claim_conditions.specs.Families.{HasMatrices}

-- The modules n, e and a have one side, and by the maps f and g the sequence 0 → n → e → a → 0 is almost split: exact, g no split epimorphism, both ends
-- local, and for every module, of whatever dimension, each homomorphism from it to a that is no split epimorphism lifts along g, and each homomorphism
-- from n to it that is no split monomorphism extends along f.
pub record SequenceHolds (h : Header) (n e a : Module) (f g : List PlainMatrix) : Type 0 where
  pub left_side : n.side ≡ a.side
  pub middle_side : e.side ≡ a.side
  pub first : Hom (read_beside h a n) (read_beside h a e)
  pub first_matrices : HasMatrices first f
  pub second : Hom (read_beside h a e) (read h a)
  pub second_matrices : HasMatrices second g
  pub is : IsAlmostSplit (algebra_at a.side h) first second
