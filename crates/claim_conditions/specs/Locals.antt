-- Local modules. (Assem, Simson, Skowroński, volume 1, chapter I, 4.)
use Rattle.path_algebra.specs.declared.Header.{Header}
use Rattle.local_modules.specs.Local.{IsLocal}
use Rattle.module_types.specs.declared.Module.{Module}
use Rattle.module_types.specs.Readings.{read}

-- The module is not zero, and each of its endomorphisms has an inverse or a power that is zero: its endomorphism ring is local, and it is indecomposable.
abbrev pub LocalHolds : Header → Module → Type 0
LocalHolds h m = IsLocal (read h m)
