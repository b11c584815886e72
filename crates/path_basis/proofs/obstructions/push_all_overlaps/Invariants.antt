use Rattle.std.specs.Prelude.{All}
use Rattle.path_basis.specs.Completing.{IsObstruction}
use Rattle.path_basis.proofs.obstructions.push_all_overlaps.Given as goal

abbrev pub invariant-loop-rule : goal.invariant-loop-rule
invariant-loop-rule l = All (IsObstruction l.header) l.found.items
