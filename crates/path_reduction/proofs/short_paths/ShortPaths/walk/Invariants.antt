use Rattle.std.proofs.Common.{take}
use Rattle.path_reduction.specs.ShortPaths.{IsWalked}
use Rattle.path_reduction.proofs.short_paths.ShortPaths.walk.Given as goal

abbrev pub invariant-loop-arrow : goal.invariant-loop-arrow
invariant-loop-arrow l = IsWalked l.self l.place (take l.arrow-index l.arrows) l.at
