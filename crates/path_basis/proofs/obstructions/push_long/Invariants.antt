use Rattle.std.specs.Prelude.{All}
use Rattle.path_basis.specs.Completing.{IsObstruction}
use Rattle.path_basis.proofs.obstructions.push_long.Given as goal

abbrev pub invariant-loop-before : goal.invariant-loop-before
invariant-loop-before l = All (IsObstruction l.header) l.found.items
