use Rattle.std.proofs.Common.{◌≤◌, ◌+◌, ◌*◌, length}
use Rattle.path_reduction.specs.Derived.{IsDerivation, AreDerived, Lengthens}
use Rattle.path_basis.specs.Tails.{AreTailsReduced}
use Rattle.path_basis.proofs.tails.reduce_tails.Given as goal

abbrev pub invariant-loop-rule : goal.invariant-loop-rule
invariant-loop-rule l = record {
  reduced : AreTailsReduced l.header l.rules l.rule-index l.reduced.items;
  lawful : IsDerivation l.header l.steps.items;
  derived : AreDerived l.header l.steps.items l.reduced.items;
  lengthens : Lengthens l.fn.steps.items l.steps.items;
  count : length l.steps.items ≤ length l.fn.steps.items + 131072 * l.rule-index;
}
