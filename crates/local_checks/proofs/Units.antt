-- The identity of the algebra of families.
use Rattle.std.proofs.Common.{ℕ, ◌<◌, ◌≤◌, ◌≡◌, ◌+◌, ◌*◌, List, ◌++◌, get_or, length, take, drop, sym, ap, ap₂, ◌∙◌, inl, inr, arith, subst}
use Rattle.std.proofs.lemmas.Bool.{cases_lt}
use Rattle.std.proofs.lemmas.Nat.{div-mul-add, mod-mul-add}
use Rattle.linear_algebra.specs.Field.{Gf}
use Rattle.linear_algebra.specs.Matrix.{Mat-eq_below, delta}
use Rattle.linear_algebra.specs.BlockFamilies.{total}
use Rattle.linear_algebra.specs.Typed.{as_row}
use Rattle.linear_algebra.proofs.BlockFamilies.{total_grows}
use Rattle.linear_algebra.proofs.MatrixLaws.{one-at}
use Rattle.linear_algebra.proofs.Solutions.{flatten_all-same}
use Rattle.fp_linear.specs.Slices.{AreElements, IsWritten}
use Rattle.fp_linear.proofs.Slices.{IsWritten-none}
use Rattle.representations.specs.Quiver.{Quiver}
use Rattle.representations.specs.HomSpace.{unknowns}
use Rattle.representations.proofs.HomSpace.{flat_of}
use Rattle.representations.proofs.Equations.{unflat-at}
use Rattle.local_modules.specs.FamilyAlgebra.{row_identity}
use Rattle.module_types.specs.declared.Module.{Module}
use Rattle.module_types.specs.Readings.{rep_of}
use Rattle.module_types.specs.Shapes.{IsModule}
use Rattle.module_checks.specs.Commuting.{block_sizes}
use Rattle.module_checks.proofs.HomRank.{blocks_before, dim_at-is}
use Rattle.local_checks.specs.Units.{unit_entry, AreUnits}
use Rattle.local_checks.proofs.Places.{place_below, IsWritten-part}
use Rattle.local_checks.proofs.Spaces.{as_row_is}

pub units_none : (dims o : List ℕ) → AreUnits dims 0 o
units_none dims o = record { each = λ v e h k. absurd (omega arith) }

pub units_more : (dims : List ℕ) (k from size : ℕ) (old new : List ℕ) → AreUnits dims k old → from ≡ total k (block_sizes dims dims) → size ≡ get_or dims k 0 → IsWritten old new from (size * size) (unit_entry size) → AreUnits dims (k + 1) new
units_more dims k from size old new b f s w = record {
  each = λ v e h u. elim (cases_lt v k) [
    | inl before ↦ let g = total_grows (block_sizes dims dims) k v before in w.before (total v (block_sizes dims dims) + e) (omega arith) ∙ b.each v e before u
    | inr past ↦
        let same : v ≡ k = omega arith in
        subst (λ v. get_or new (total v (block_sizes dims dims) + e) 0 ≡ unit_entry (get_or dims v 0) e) (sym same)
        (rw (← f, ← s) (w.within e (rw s (subst (λ v. e < get_or dims v 0 * get_or dims v 0) same u))))
  ];
}

from_zero : (k : ℕ) → k ≡ 0 + k
from_zero k = omega arith

-- A block that is lent and written.
pub unit_written : (old w : List ℕ) (from size k : ℕ) → k ≡ size * size → length w ≡ size * size → from + size * size ≤ length old → ((j : ℕ) → j < size * size → get_or w j 0 ≡ unit_entry size j)
    → IsWritten old (take from old ++ (w ++ drop k (drop from old))) from (size * size) (unit_entry size)
unit_written old w from size k e c r h = IsWritten-part old old w from 0 from k (size * size) (size * size) (unit_entry size) (IsWritten-none old from (unit_entry size)) (omega arith) c e (omega (arith, r)) (from_zero (size * size))
    (λ j l. h j l ∙ ap (unit_entry size) (from_zero j))

module _ (q : Gf) (Q : Quiver) (m : Module) (M : IsModule q Q m) where
  pub unit_of_module : (k : ℕ) (o : List ℕ) → k ≡ length m.dims → AreElements q o → length o ≡ unknowns (rep_of q Q m) (rep_of q Q m) → AreUnits m.dims k o
      → as_row q (unknowns (rep_of q Q m) (rep_of q Q m)) o ≡ row_identity (rep_of q Q m)
  unfolding row_identity
  unit_of_module k o e a c u =
      sym (flat_of (rep_of q Q m) (rep_of q Q m) (as_row q (unknowns (rep_of q Q m) (rep_of q Q m)) o))
      ∙ flatten_all-same Q.vertices (rep_of q Q m).dim (rep_of q Q m).dim _ _ (λ v h. Mat-eq_below _ _ (λ i j x y.
      let d = dim_at-is Q m.dims v h in
      let t = blocks_before Q m.dims m.dims v h in
      unflat-at (rep_of q Q m) (rep_of q Q m) (as_row q (unknowns (rep_of q Q m) (rep_of q Q m)) o) v i j x y ∙ as_row_is q (unknowns (rep_of q Q m) (rep_of q Q m)) o a c _
      ∙ ap (λ (z : ℕ). get_or o z 0) (place (total v (λ w. (rep_of q Q m).dim w * (rep_of q Q m).dim w)) (i * (rep_of q Q m).dim v) j)
      ∙ ap (λ (z : ℕ). get_or o (z + (i * (rep_of q Q m).dim v + j)) 0) (sym t)
      ∙ u.each v (i * (rep_of q Q m).dim v + j) (let n = M.counted in omega (arith, n, e, h)) (subst (λ (z : ℕ). i * (rep_of q Q m).dim v + j < z * z) d (place_below i ((rep_of q Q m).dim v) j ((rep_of q Q m).dim v) x y))
      ∙ ap (λ (z : ℕ). unit_entry z (i * (rep_of q Q m).dim v + j)) (sym d)
      ∙ ap₂ delta (div-mul-add i ((rep_of q Q m).dim v) j y) (mod-mul-add i ((rep_of q Q m).dim v) j y) ∙ sym (one-at q ((rep_of q Q m).dim v) i j x)))
    where
      place : (a b j : ℕ) → a + b + j ≡ a + (b + j)
      place a b j = omega arith
