use Rattle.std.specs.Prelude.{All}
use Rattle.std.specs.BinaryHeap.{heap_items}
use Rattle.path_basis.specs.Completing.{IsObstruction, IsCompletion}
use Rattle.path_basis.proofs.completion.from_relations.Given as goal

abbrev pub invariant-loop-i : goal.invariant-loop-i
invariant-loop-i l = record {
  completion : IsCompletion l.header l.state.rules.items l.state.removed.items l.state.steps.items;
  obstructions : All (IsObstruction l.header) (heap_items l.state.obstructions);
}
