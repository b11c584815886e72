-- The causes for which a map is refused, each of which comes after those before it. (Assem, Simson, Skowroński, volume 1, chapter III, 1.)
use Rattle.std.specs.Prelude.{ℕ, ⊤, ◌≡◌, ◌<◌, List}
use Rattle.linear_algebra.specs.Matrix.{◌·◌}
use Rattle.fp_linear.specs.Matrix.{PlainMatrix}
use Rattle.quiver_paths.specs.Quiver.{arrow_count}
use Rattle.path_algebra.specs.declared.Header.{Header}
use Rattle.module_types.specs.declared.Module.{Module}
use Rattle.module_types.specs.Algebras.{algebra_at}
use Rattle.module_types.specs.Readings.{read, read_beside, family_of}
use Rattle.module_types.specs.Shapes.{IsMap}
use Rattle.claim_conditions.specs.Modules.{MapHolds}
use Rattle.module_faults.specs.declared.MapFault.{MapFault}
use Rattle.module_faults.specs.declared.MapFault.TheVariants.{Side, Shape, NotHom, NoMemory}

-- the matrices have the shapes of a map from a to b
abbrev pub HasMapShape : Header → Module → Module → List PlainMatrix → Type 0
HasMapShape h a b matrices = IsMap h.field (algebra_at a.side h).quiver a b matrices

-- they commute with the matrices of the arrow k
abbrev pub CommutesAt : Header → Module → Module → List PlainMatrix → ℕ → Type 0
CommutesAt h a b matrices k =
    let Q = (algebra_at a.side h).quiver in
    let X = read h a in
    let Y = read_beside h a b in
    X.mat k · family_of X Y matrices (Q.target k) ≡ family_of X Y matrices (Q.source k) · Y.mat k

-- A map between modules of one side that has its shape and is a homomorphism.
pub record IsSmallMap (h : Header) (a b : Module) (matrices : List PlainMatrix) : Type 0 where
  pub shape : HasMapShape h a b matrices
  pub holds : MapHolds h a b matrices

pub record IsOffShape (h : Header) (a b : Module) (matrices : List PlainMatrix) : Type 0 where
  pub side : a.side ≡ b.side
  pub shape : HasMapShape h a b matrices → ⊥

-- Arrow k is the first with whose matrices they do not commute.
pub record FailsAtArrow (h : Header) (a b : Module) (matrices : List PlainMatrix) (k : ℕ) : Type 0 where
  pub side : a.side ≡ b.side
  pub shape : HasMapShape h a b matrices
  pub arrow : k < arrow_count h.quiver
  pub before : (i : ℕ) → i < k → CommutesAt h a b matrices i
  pub fails : CommutesAt h a b matrices k → ⊥

-- It is the first of the causes. Want of memory may come in the place of any answer.
abbrev pub IsMapFault : Header → Module → Module → List PlainMatrix → MapFault → Type 0
IsMapFault h a b matrices Side = a.side ≡ b.side → ⊥
IsMapFault h a b matrices Shape = IsOffShape h a b matrices
IsMapFault h a b matrices (NotHom k) = FailsAtArrow h a b matrices k
IsMapFault h a b matrices NoMemory = ⊤
