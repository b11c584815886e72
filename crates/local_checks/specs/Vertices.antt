-- The matrices that families have at a vertex.
use Rattle.std.specs.Prelude.{ℕ, List}
use Rattle.linear_algebra.specs.Matrix.{Mat}
use Rattle.linear_algebra.specs.Parts.{row}
use Rattle.path_algebra.specs.declared.Header.{Header}
use Rattle.local_modules.specs.FamilyAlgebra.{families}
use Rattle.module_types.specs.declared.Module.{Module}
use Rattle.module_types.specs.Readings.{read}
use Rattle.local_checks.specs.Families.{family_rows}

-- the matrices at vertex v of n families that stand one after another
abbrev pub at_vertex : (h : Header) (m : Module) (n : ℕ) (s : List ℕ) (v : ℕ) → ℕ → Mat h.field ((read h m).dim v) ((read h m).dim v)
at_vertex h m n s v j = ((families (read h m)).element (row j (family_rows h m n s))).at v
