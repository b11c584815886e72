use Rattle.std.proofs.Common.{ℕ, ◌≤◌, ◌+◌, ◌*◌, length}
use Rattle.quiver_paths.specs.declared.Path.{Path}
use Rattle.path_algebra.specs.Elements.{sum_of_terms}
use Rattle.path_reduction.specs.Derived.{Derives, Lengthens, AreDerived}
use Rattle.path_reduction.specs.Reducing.{IsReducing, beside, row_element}
use Rattle.path_reduction.proofs.reducing.reduce.Given as goal

abbrev pub invariant-loop-place : goal.invariant-loop-place
invariant-loop-place l = record {
  reducing : IsReducing l.header l.rules l.fn.given.terms.items l.space l.element.coefs.items l.end;
  within : l.end ≤ length l.space;
  count : length l.steps.items + 32 * l.end ≤ length l.fn.steps.items + 131072;
  lengthens : Lengthens l.fn.steps.items l.steps.items;
  makes : (x : Path → ℕ) → AreDerived l.header l.fn.steps.items l.rules → Derives l.header l.fn.steps.items l.fn.given.step (beside l.header x (sum_of_terms l.header.field l.header.bound l.fn.given.terms.items))
      → Derives l.header l.steps.items l.element.step (beside l.header x (row_element l.header l.space l.element.coefs.items));
}

abbrev pub decreases-loop-place : goal.decreases-loop-place
decreases-loop-place l = l.end
