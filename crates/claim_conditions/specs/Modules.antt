-- Modules and maps: what claims on them say, and the conditions on the objects of a record, which are tried before those on its claim.
-- (Assem, Simson, Skowroński, volume 1, chapter III, 1.)
use Rattle.std.specs.Prelude.{◌≡◌, List, [], ◌∷◌, All}
use Rattle.fp_linear.specs.Matrix.{PlainMatrix}
use Rattle.path_algebra.specs.declared.Header.{Header}
use Rattle.projectives.specs.TwoSided.{TwoSided}
use Rattle.bound_algebra.specs.BoundAlgebra.{bound_algebra}
use Rattle.module_types.specs.declared.Module.{Module}
use Rattle.module_types.specs.Readings.{IsModuleOver, read, read_beside, family_of, IsHom}
use Rattle.claim_conditions.specs.declared.Clause.TheVariants as clause
use Rattle.claim_conditions.specs.Conditions.{Condition, ◌asks◌}

-- The words of a header that are a basis of its algebra on both sides: what all claims that speak of projective modules are read over. In a report: its
-- normal words, ascending.
abbrev pub Sides : Header → Type 0
Sides h = TwoSided h.field (bound_algebra h)

-- It is a module over the algebra of the header, on its side: each relation and each path of the bound's length acts as zero.
abbrev pub ModuleHolds : Header → Module → Type 0
ModuleHolds h m = IsModuleOver h m

-- The modules a and b have one side, and the matrices are a homomorphism from a to b.
pub record MapHolds (h : Header) (a b : Module) (matrices : List PlainMatrix) : Type 0 where
  pub side : a.side ≡ b.side
  pub hom : IsHom (read h a) (read_beside h a b) (family_of (read h a) (read_beside h a b) matrices)

-- a map with the modules that it names
pub record PrintedMap : Type 0 where
  pub source : Module
  pub target : Module
  pub matrices : List PlainMatrix

-- On the objects of a record: `relations`, each module is one; `commutes`, each map is a homomorphism between modules of one side.
abbrev pub object_conditions : Header → List Module → List PrintedMap → List Condition
object_conditions h modules maps =
    (clause.Relations asks All (ModuleHolds h) modules)
    ∷ (clause.Commutes asks All (λ (f : PrintedMap). MapHolds h f.source f.target f.matrices) maps)
    ∷ []

-- A claim on a module or a map asks no more.
abbrev pub module_conditions : List Condition
module_conditions = []

abbrev pub map_conditions : List Condition
map_conditions = []
