use Rattle.std.proofs.Common.{ℕ, ◌≤◌, ◌+◌, ◌^◌, length}
use Rattle.path_reduction.specs.Gaps.{AreTidy}
use Rattle.path_reduction.specs.Derived.{IsDerivation, AreDerived, Lengthens}
use Rattle.path_basis.specs.Tails.{HaveSameTips}
use Rattle.path_basis.proofs.tails.reduce_tails_with.Given as goal

abbrev pub invariant-loop-i : goal.invariant-loop-i
invariant-loop-i l = record {
  tidy : AreTidy l.header l.rules.items;
  tips : HaveSameTips l.fn.rules.items l.rules.items;
  lawful : IsDerivation l.header l.steps.items;
  derived : AreDerived l.header l.steps.items l.rules.items;
  lengthens : Lengthens l.fn.steps.items l.steps.items;
  count : (most : ℕ) → length l.fn.steps.items ≤ most → 2 ^ 31 + 131072 ≤ most → length l.steps.items ≤ most;
}
