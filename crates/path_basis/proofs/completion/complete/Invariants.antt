use Rattle.std.proofs.Common.{◌≤◌}
use Rattle.std.specs.Prelude.{All}
use Rattle.std.specs.BinaryHeap.{heap_items}
use Rattle.path_basis.specs.Measure.{free_count}
use Rattle.path_basis.specs.Completing.{IsObstruction, IsCompletion}
use Rattle.path_basis.proofs.completion.complete.Given as goal

abbrev pub invariant-loop : goal.invariant-loop
invariant-loop l = record {
  completion : IsCompletion l.header l.state.rules.items l.state.removed.items l.state.steps.items;
  obstructions : All (IsObstruction l.header) (heap_items l.state.obstructions);
  fewer : free_count l.header l.state.rules.items ≤ free_count l.header l.fn.state.rules.items;
}

abbrev pub decreases-loop : goal.decreases-loop
decreases-loop l = free_count l.header l.state.rules.items
