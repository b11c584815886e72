use Rattle.std.proofs.Common.{inl, inr, ap, ◌∙◌, arith, get_or, set, length, get_or-set_same, get_or-set_other}
use Rattle.std.proofs.lemmas.List.{get_or_past}
use Rattle.std.proofs.lemmas.Bool.{cases_lt, cases_eq}
use Rattle.fp_linear.proofs.clearing.make_zero.Goals as goal

pub loop-j-preserved : goal.loop-j-preserved
loop-j-preserved c k l = elim (cases_eq k c.loop-j.j) [
  | inl e ↦ ap (λ i. get_or (set c.loop-j.row c.loop-j.j 0) i 0) e ∙ get_or-set_same c.loop-j.row c.loop-j.j 0 0 (omega (arith, c.loop-j-test.true, c.loop-j.auto.row))
  | inr n ↦ get_or-set_other c.loop-j.row c.loop-j.j k 0 0 n ∙ c.loop-j.invariant k (omega arith)
]

pub returns : goal.returns
returns c j = elim (cases_lt j (length c.loop-j.row)) [
  | inl l ↦ c.loop-j.invariant j (omega (arith, l, c.loop-j-test.false, c.loop-j.auto.row, c.loop-j.auto.j-end))
  | inr l ↦ get_or_past c.loop-j.row j 0 l
]
