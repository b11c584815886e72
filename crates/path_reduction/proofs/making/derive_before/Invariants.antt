use Rattle.std.proofs.Common.{◌≡◌, ◌+◌, ◌-◌, drop, length}
use Rattle.path_reduction.specs.Derived.{Lengthens, MakesBefore}
use Rattle.path_reduction.proofs.making.derive_before.Given as goal

abbrev pub invariant-loop-done : goal.invariant-loop-done
invariant-loop-done l = record {
  count : length l.steps.items ≡ length l.fn.steps.items + l.done;
  lengthens : Lengthens l.fn.steps.items l.steps.items;
  makes : MakesBefore (drop (length l.arrows - l.done) l.arrows) l.fn.steps.items l.number l.steps.items l.last;
}
