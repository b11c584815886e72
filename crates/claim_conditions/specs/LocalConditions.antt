-- The conditions on a local module: an ideal of its endomorphism ring with a power that is zero, and a residue ring in which each element but zero has an
-- inverse. All products are taken in the algebra of all families of square matrices at the vertices; the rows of the Hom claim span a space of these, and
-- the rows of the ideal, in coordinates over them, another one.
use Rattle.std.specs.Prelude.{ℕ, zero, ◌≢◌, List, [], ◌∷◌}
use Rattle.linear_algebra.specs.Field.{Gf}
use Rattle.linear_algebra.specs.Matrix.{Mat, ◌·◌}
use Rattle.linear_algebra.specs.RowForm.{IsRowReduced}
use Rattle.linear_algebra.specs.Typed.{as_mat}
use Rattle.fp_linear.specs.Matrix.{PlainMatrix}
use Rattle.path_algebra.specs.declared.Header.{Header}
use Rattle.local_modules.specs.Algebra.{Algebra}
use Rattle.local_modules.specs.FamilyAlgebra.{family_algebra}
use Rattle.local_modules.specs.Ideal.{IsLeastPower}
use Rattle.local_modules.specs.Subalgebra.{IsSubalgebra, IsIdealOf, IsFrobeniusOf, IsListedOf}
use Rattle.module_types.specs.declared.Module.{Module}
use Rattle.module_types.specs.Readings.{read}
use Rattle.claim_conditions.specs.declared.Clause.TheVariants as clause
use Rattle.claim_conditions.specs.declared.Residue.{Residue}
use Rattle.claim_conditions.specs.declared.Residue.TheVariants.{Frobenius, Listed}
use Rattle.claim_conditions.specs.Conditions.{Condition, ◌asks◌}
use Rattle.claim_conditions.specs.Homs.{hom_rows}

-- the families of square matrices; the rows of the Hom claim; those of the ideal in coordinates over them; and the families that these are
abbrev pub families_of : (h : Header) (m : Module) → Algebra h.field
families_of h m = family_algebra (read h m)

abbrev pub ring_rows : (h : Header) (m : Module) (basis : PlainMatrix) → Mat h.field basis.row_count (families_of h m).size
ring_rows h m basis = hom_rows h m m basis

abbrev pub ideal_rows : (h : Header) (basis ideal : PlainMatrix) → Mat h.field ideal.row_count basis.row_count
ideal_rows h basis ideal = as_mat h.field ideal.row_count basis.row_count ideal.rows

abbrev pub ideal_members : (h : Header) (m : Module) (basis ideal : PlainMatrix) → Mat h.field ideal.row_count (families_of h m).size
ideal_members h m basis ideal = ideal_rows h basis ideal · ring_rows h m basis

-- `nonzero`: there are rows at some vertex
pub record IsNotZero (h : Header) (m : Module) : Type 0 where
  pub vertex : ℕ
  pub nonzero : (read h m).dim vertex ≢ zero

-- `ideal`: the rows are in reduced row form, and their span is closed under products with each member of the basis, on both sides
pub record IsPrintedIdeal (h : Header) (m : Module) (basis ideal : PlainMatrix) : Type 0 where
  pub pivot : ℕ → ℕ
  pub reduced : IsRowReduced (ideal_rows h basis ideal) pivot
  pub closed : IsIdealOf (families_of h m) (ring_rows h m basis) (ideal_members h m basis ideal)

-- `power`: each product of so many members of the ideal is zero, and no smaller number from 1 on has this property
abbrev pub IsPrintedPower : Header → Module → PlainMatrix → PlainMatrix → ℕ → Type 0
IsPrintedPower h m basis ideal power = IsLeastPower (families_of h m) (ideal_members h m basis ideal) power

-- `residue`: the span of the basis has the identity and the products of its members, and modulo the ideal it is a division ring, in the form that is named
abbrev pub HasForm : {q : Gf} (E : Algebra q) {n k : ℕ} → Mat q n E.size → Mat q k E.size → Residue → Type 0
HasForm E ring ideal Frobenius = IsFrobeniusOf E ring ideal
HasForm E ring ideal Listed = IsListedOf E ring ideal

pub record IsPrintedResidue (h : Header) (m : Module) (basis ideal : PlainMatrix) (residue : Residue) : Type 0 where
  pub ring : IsSubalgebra (families_of h m) (ring_rows h m basis)
  pub form : HasForm (families_of h m) (ring_rows h m basis) (ideal_members h m basis ideal) residue

-- `objects`: the numbers say that the Hom claim is one of m with m
abbrev pub local_conditions : (named : Type 0) → Header → Module → (basis ideal : PlainMatrix) → ℕ → Residue → List Condition
local_conditions named h m basis ideal power residue =
    (clause.Objects asks named)
    ∷ (clause.Nonzero asks IsNotZero h m)
    ∷ (clause.Ideal asks IsPrintedIdeal h m basis ideal)
    ∷ (clause.Power asks IsPrintedPower h m basis ideal power)
    ∷ (clause.Residue asks IsPrintedResidue h m basis ideal residue)
    ∷ []
