use Rattle.std.specs.Prelude.{All}
use Rattle.std.specs.BinaryHeap.{heap_items}
use Rattle.path_basis.specs.Completing.{IsObstruction}
use Rattle.path_basis.proofs.obstructions.push_all.Given as goal

abbrev pub invariant-loop-obstruction : goal.invariant-loop-obstruction
invariant-loop-obstruction l = All (IsObstruction l.header) (heap_items l.heap)
