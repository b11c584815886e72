-- The causes for which a module is refused, each of which comes after those before it. (Assem, Simson, Skowroński, volume 1, chapter III, 1.)
use Rattle.std.specs.Prelude.{ℕ, ⊤, ◌≡◌, ◌<◌, ◌-◌, length}
use Rattle.quiver_paths.specs.declared.Path.{Path}
use Rattle.path_algebra.specs.declared.Header.{Header}
use Rattle.path_algebra.specs.Derivations.{IsNumber}
use Rattle.module_types.specs.declared.Module.{Module}
use Rattle.module_types.specs.Algebras.{algebra_at}
use Rattle.module_types.specs.Readings.{IsModuleOver}
use Rattle.module_types.specs.Shapes.{IsModule, HasModuleShape, dimension, most_dimension}
use Rattle.module_faults.specs.declared.ModuleFault.{ModuleFault}
use Rattle.module_faults.specs.declared.ModuleFault.TheVariants.{Shape, DimLimit, RelationFails, BoundFails, NoMemory}
use Rattle.module_faults.specs.PathActions.{IsFirstLongPath}
use Rattle.module_faults.specs.RelationActions.{IsRelationZero, AreRelationsZero}

-- A printed module, of at most the largest dimension, that has its shape and is a module over the algebra of the header, on its side.
pub record IsSmallModule (h : Header) (m : Module) : Type 0 where
  pub shape : IsModule h.field (algebra_at m.side h).quiver m
  pub over : IsModuleOver h m

abbrev pub HasShape : Header → Module → Type 0
HasShape h m = HasModuleShape h.field (algebra_at m.side h).quiver m

-- The relation with this number, counted from 1, is the first that does not act as zero, its terms of the bound's length or more left out.
pub record IsFirstFailing (h : Header) (m : Module) (number : ℕ) : Type 0 where
  pub counted : IsNumber (length h.relations) number
  pub before : AreRelationsZero h m (number - 1)
  pub fails : IsRelationZero h m (number - 1) → ⊥

pub record ExceedsLimit (h : Header) (m : Module) (dim : ℕ) : Type 0 where
  pub shape : HasShape h m
  pub counted : dim ≡ dimension m.dims
  pub large : most_dimension < dim

pub record FailsRelation (h : Header) (m : Module) (number : ℕ) : Type 0 where
  pub shape : IsModule h.field (algebra_at m.side h).quiver m
  pub first : IsFirstFailing h m number

pub record FailsBound (h : Header) (m : Module) (p : Path) : Type 0 where
  pub shape : IsModule h.field (algebra_at m.side h).quiver m
  pub relations : AreRelationsZero h m (length h.relations)
  pub first : IsFirstLongPath h m p

-- It is the first of the causes. Want of memory may come in the place of any answer.
abbrev pub IsModuleFault : Header → Module → ModuleFault → Type 0
IsModuleFault h m Shape = HasShape h m → ⊥
IsModuleFault h m (DimLimit dim) = ExceedsLimit h m dim
IsModuleFault h m (RelationFails number) = FailsRelation h m number
IsModuleFault h m (BoundFails p) = FailsBound h m p
IsModuleFault h m NoMemory = ⊤
