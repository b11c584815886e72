-- Modules as they are printed. (Assem, Simson, Skowroński, volume 1, chapter III, 1.)
use Rattle.path_algebra.specs.declared.Header.{Header}
use Rattle.module_types.specs.declared.Module.{Module}
use Rattle.module_types.specs.Algebras.{algebra_at}
use Rattle.module_types.specs.Readings.{IsModuleOver}
use Rattle.module_types.specs.Shapes.{HasModuleShape}

-- A printed module, of any dimension, as far as there are matrices: its lists have their lengths and its matrices their shapes, and what it is read as is
-- a module over the algebra of the header, on its side.
abbrev pub IsPrintedModule : Header → Module → Type 0
IsPrintedModule h m = HasModuleShape h.field (algebra_at m.side h).quiver m × IsModuleOver h m
