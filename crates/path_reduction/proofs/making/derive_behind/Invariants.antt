use Rattle.std.proofs.Common.{◌≡◌, ◌+◌, take, length}
use Rattle.path_reduction.specs.Derived.{Lengthens, MakesBehind}
use Rattle.path_reduction.proofs.making.derive_behind.Given as goal

abbrev pub invariant-loop-arrow : goal.invariant-loop-arrow
invariant-loop-arrow l = record {
  count : length l.steps.items ≡ length l.fn.steps.items + l.arrow-index;
  lengthens : Lengthens l.fn.steps.items l.steps.items;
  makes : MakesBehind (take l.arrow-index l.arrows) l.fn.steps.items l.number l.steps.items l.last;
}
