use Rattle.std.proofs.Common.{◌≡◌, length}
use Rattle.path_basis.specs.Pruning.{IsKept}
use Rattle.path_basis.proofs.pruning.keep_marked.Given as goal

abbrev pub invariant-loop-place : goal.invariant-loop-place
invariant-loop-place l = record {
  kept : IsKept l.steps l.marks l.kept.items l.numbers.items;
  count : length l.numbers.items ≡ l._place;
}
