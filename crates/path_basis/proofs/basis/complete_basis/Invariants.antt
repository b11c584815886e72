use Rattle.std.specs.Prelude.{All}
use Rattle.std.specs.BinaryHeap.{heap_items}
use Rattle.path_basis.specs.Measure.{free_count}
use Rattle.path_basis.specs.Completing.{IsObstruction, IsCompletion}
use Rattle.path_basis.proofs.basis.complete_basis.Given as goal

abbrev pub invariant-gaps : goal.invariant-gaps
invariant-gaps l = record {
  completion : IsCompletion l.header l.state.rules.items l.state.removed.items l.state.steps.items;
  obstructions : All (IsObstruction l.header) (heap_items l.state.obstructions);
}

abbrev pub decreases-gaps : goal.decreases-gaps
decreases-gaps l = free_count l.header l.state.rules.items
