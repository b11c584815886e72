-- Rings of families with an ideal, as spaces in lent memory.
use Rattle.std.specs.Prelude.{ℕ, ◌<◌, ◌≤◌, ◌≡◌, ◌*◌, ◌^◌, List, length}
use Rattle.linear_algebra.specs.Field.{Gf}
use Rattle.linear_algebra.specs.Matrix.{Mat}
use Rattle.linear_algebra.specs.Parts.{row}
use Rattle.linear_algebra.specs.Rank.{IsInSpan}
use Rattle.fp_linear.specs.Slices.{AreElements}
use Rattle.path_algebra.specs.declared.Header.{Header}
use Rattle.local_modules.specs.Algebra.{Algebra, Element}
use Rattle.local_modules.specs.Subalgebra.{IsSubalgebra, IsIdealOf, IsListedOf}
use Rattle.module_types.specs.declared.Module.{Module}
use Rattle.claim_conditions.specs.LocalConditions.{families_of}
use Rattle.local_checks.specs.Families.{IsFamilySpace, family_space}

-- Two spaces of families, the second in the first and an ideal of it.
pub record AreRingAndIdeal (h : Header) (m : Module) (ring ring_pivots rows pivots : List ℕ) : Type 0 where
  pub first : IsFamilySpace h m ring ring_pivots
  pub second : IsFamilySpace h m rows pivots
  pub inside : IsInSpan (family_space h m ring ring_pivots) (family_space h m rows pivots)
  pub ideal : IsIdealOf (families_of h m) (family_space h m ring ring_pivots) (family_space h m rows pivots)
  pub small : (families_of h m).size < 2 ^ 32
  pub few : length ring_pivots < 2 ^ 32

-- room for n families of numbers, and for the pivots of as many rows
pub record IsRoomFor (h : Header) (m : Module) (n : ℕ) (rows pivots : List ℕ) : Type 0 where
  pub elements : AreElements h.field rows
  pub count : length rows ≡ n * (families_of h m).size
  pub places : n ≤ length pivots

-- the rows, and their products with an element
abbrev pub members : {q : Gf} {m n : ℕ} → Mat q m n → ℕ → Mat q 1 n
members ring i = row i ring

abbrev pub products_with : {q : Gf} (E : Algebra q) {n : ℕ} (ring : Mat q n E.size) (y : Element E) → ℕ → Element E
products_with E ring y i = E.product (row i ring) y

-- The rows span an algebra with the identity that modulo the ideal is not commutative, and each element of which is zero modulo the ideal or has an inverse.
pub record IsListedSpace {q : Gf} (E : Algebra q) {n k : ℕ} (ring : Mat q n E.size) (ideal : Mat q k E.size) : Type 0 where
  pub subalgebra : IsSubalgebra E ring
  pub listed : IsListedOf E ring ideal
