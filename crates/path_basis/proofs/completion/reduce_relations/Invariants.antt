use Rattle.std.proofs.Common.{ℕ, ◌≡◌, ◌<◌, get_or}
use Rattle.std.specs.Prelude.{All}
use Rattle.std.specs.BinaryHeap.{heap_items}
use Rattle.path_algebra.specs.declared.Relation.{Relation}
use Rattle.path_basis.specs.Completing.{IsObstruction, IsCompletion, RelationReduces}
use Rattle.path_basis.proofs.completion.reduce_relations.Given as goal

abbrev pub invariant-loop-i : goal.invariant-loop-i
invariant-loop-i l = record {
  completion : IsCompletion l.header l.state.rules.items l.state.removed.items l.state.steps.items;
  obstructions : All (IsObstruction l.header) (heap_items l.state.obstructions);
  same : l.state.rules.items ≡ l.fn.state.rules.items;
  reduce : (k : ℕ) (d : Relation) → k < l.i → RelationReduces l.header l.fn.state.rules.items (get_or l.header.relations k d);
}
