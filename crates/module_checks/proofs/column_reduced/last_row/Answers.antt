use Rattle.std.proofs.Common.{◌≡◌, ◌+◌, ◌-◌, sym, ap, ◌∙◌, inl, inr, arith, get_or, subst}
use Rattle.std.proofs.lemmas.Bool.{cases_eq}
use Rattle.linear_algebra.specs.Rows.{entry}
use Rattle.linear_algebra.proofs.Rows.{row-entry}
use Rattle.module_checks.proofs.column_reduced.last_row.Goals as goal

pub returns-then-row-k-ne0 : goal.returns-then-row-k-ne0
returns-then-row-k-ne0 c =
    let at = c.rows-count.result - (c.loop-t.t + 1) in (
      omega (arith, c.loop-t-test.true, c.rows-count.ensures.count),
      λ e. c.if-row-k-ne0.true (ap (λ r. get_or r c.args.k 0) c.row.ensures.row ∙ row-entry c.args.matrix.now.rows at c.args.k ∙ e),
      λ i a b. c.loop-t.invariant i (omega (arith, c.loop-t-test.true, c.rows-count.ensures.count, a)) b,
    )

pub loop-t-preserved : goal.loop-t-preserved
loop-t-preserved c i a b =
    let at = c.rows-count.result - (c.loop-t.t + 1) in
    elim (cases_eq i (c.rows-count.result - (c.loop-t.t + 1))) [
      | inl e ↦ subst (λ i. entry c.args.matrix.now.rows i c.args.k ≡ 0) (sym e) (sym (ap (λ r. get_or r c.args.k 0) c.row.ensures.row ∙ row-entry c.args.matrix.now.rows at c.args.k) ∙ c.if-row-k-ne0.false)
      | inr d ↦ c.loop-t.invariant i (omega (arith, c.loop-t-test.true, c.rows-count.ensures.count, a, d)) b
    ]
