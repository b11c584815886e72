use Rattle.std.proofs.Common.{◌≡◌, inl, inr, sym, ap, ◌∙◌, arith}
use Rattle.std.proofs.lemmas.Bool.{cases_lt}
use Rattle.fp_linear.specs.Slices.{cell}
use Rattle.fp_linear.proofs.Cells.{cell-is}
use Rattle.fp_linear.proofs.echelon.find_pivot.Goals as goal

pub returns-then-entries-i-ne0 : goal.returns-then-entries-i-ne0
returns-then-entries-i-ne0 c = (omega arith, omega arith, λ z. c.if-entries-i-ne0.true (sym (cell-is c.args.cols c.args.entries.now c.loop-i.i c.args.column) ∙ z))

pub loop-i-preserved : goal.loop-i-preserved
loop-i-preserved c = λ k le lt. elim (cases_lt k c.loop-i.i) [
  | inl l ↦ c.loop-i.invariant k le l
  | inr l ↦ let e : k ≡ c.loop-i.i = omega arith in ap (λ k. cell c.args.cols c.args.entries.now k c.args.column) e ∙ cell-is c.args.cols c.args.entries.now c.loop-i.i c.args.column ∙ c.if-entries-i-ne0.false
]
