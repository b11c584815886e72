use Rattle.std.proofs.Common.{◌≡◌, sym, ap, ◌∙◌, inl, inr, arith, get_or, subst}
use Rattle.std.proofs.lemmas.Bool.{cases_eq}
use Rattle.linear_algebra.specs.Matrix.{delta}
use Rattle.linear_algebra.specs.Rows.{entry}
use Rattle.linear_algebra.proofs.Rows.{row-entry}
use Rattle.module_checks.proofs.column_reduced.is_unit_row.Goals as goal

pub returns-then-value-expected : goal.returns-then-value-expected
returns-then-value-expected c h = c.if-value-expected.true
    (ap (λ r. get_or r c.loop-j.j 0) c.row-row.ensures.row ∙ row-entry c.args.matrix.now.rows c.args.p c.loop-j.j ∙ h c.loop-j.j (omega (arith, c.loop-j-test.true, c.cols-j-end.ensures.count)) ∙ sym c.unit_entry-expected.ensures)

pub loop-j-preserved : goal.loop-j-preserved
loop-j-preserved c i l = elim (cases_eq i c.loop-j.j) [
  | inl e ↦ subst (λ i. entry c.args.matrix.now.rows c.args.p i ≡ delta c.args.k i) (sym e)
      (sym (ap (λ r. get_or r c.loop-j.j 0) c.row-row.ensures.row ∙ row-entry c.args.matrix.now.rows c.args.p c.loop-j.j) ∙ c.if-value-expected.false ∙ c.unit_entry-expected.ensures)
  | inr d ↦ c.loop-j.invariant i (omega arith)
]
