-- Families of square matrices at the vertices of a module, each as one row in lent memory, and spaces of them.
use Rattle.std.specs.Prelude.{◌≡◌, ℕ, List, length}
use Rattle.linear_algebra.specs.Matrix.{Mat}
use Rattle.linear_algebra.specs.Typed.{as_row}
use Rattle.fp_linear.specs.Slices.{AreElements}
use Rattle.path_algebra.specs.declared.Header.{Header}
use Rattle.local_modules.specs.Algebra.{Element}
use Rattle.module_types.specs.declared.Module.{Module}
use Rattle.claim_conditions.specs.LocalConditions.{families_of}
use Rattle.local_checks.specs.Standing.{IsSpace, space, standing}

-- as many elements of the field as a family has entries
pub record IsFamily (h : Header) (m : Module) (s : List ℕ) : Type 0 where
  pub count : length s ≡ (families_of h m).size
  pub elements : AreElements h.field s

abbrev pub family : (h : Header) (m : Module) → List ℕ → Element (families_of h m)
family h m s = as_row h.field (families_of h m).size s

-- a space of families, and the families that stand one after another
abbrev pub IsFamilySpace : Header → Module → (rows pivots : List ℕ) → Type 0
IsFamilySpace h m rows pivots = IsSpace h.field (families_of h m).size rows pivots

abbrev pub family_space : (h : Header) (m : Module) (rows pivots : List ℕ) → Mat h.field (length pivots) (families_of h m).size
family_space h m rows pivots = space h.field (families_of h m).size rows pivots

abbrev pub family_rows : (h : Header) (m : Module) (n : ℕ) → List ℕ → Mat h.field n (families_of h m).size
family_rows h m n s = standing h.field n (families_of h m).size s
