use Rattle.std.proofs.Common.{◌≡◌, ◌+◌, length}
use Rattle.std.specs.Prelude.{All}
use Rattle.std.specs.BinaryHeap.{heap_items, heap_len}
use Rattle.path_basis.specs.Completing.{IsObstruction, IsCompletion}
use Rattle.path_basis.proofs.completion.resolve_open.Given as goal

abbrev pub invariant-loop-next : goal.invariant-loop-next
invariant-loop-next l = record {
  completion : IsCompletion l.header l.state.rules.items l.state.removed.items l.state.steps.items;
  obstructions : All (IsObstruction l.header) (heap_items l.state.obstructions);
  same : l.state.rules.items ≡ l.fn.state.rules.items;
}

abbrev pub decreases-loop-next : goal.decreases-loop-next
decreases-loop-next l = length l.state.removed.items + heap_len l.state.obstructions
