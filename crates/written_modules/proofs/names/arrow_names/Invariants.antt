use Rattle.std.proofs.Common.{◌≡◌, map, take}
use Rattle.quiver_paths.specs.declared.Arrow.{Arrow}
use Rattle.written_modules.proofs.names.arrow_names.Given as goal

abbrev pub invariant-loop-a : goal.invariant-loop-a
invariant-loop-a l = l.names.items ≡ map (λ (a : Arrow). a.name) (take l.a l.header.quiver.arrows)
