use Rattle.std.proofs.Common.{get_or, sym, ap, ◌∙◌, arith}
use Rattle.linear_algebra.proofs.Rows.{row-entry}
use Rattle.translate_checks.proofs.DualTests.{transposed_row-more}
use Rattle.translate_checks.proofs.duals.is_transposed_row.Goals as goal

pub returns-then-value-expected : goal.returns-then-value-expected
returns-then-value-expected c = λ t.
    let x = ap (λ r. get_or r c.loop-j.j 0) c.row-row.ensures.row ∙ row-entry c.args.b.now.rows c.args.i c.loop-j.j in
    let y = ap (λ r. get_or r c.args.i 0) c.row.ensures.row ∙ row-entry c.args.a.now.rows c.loop-j.j c.args.i in
    c.if-value-expected.true (x ∙ t.at c.loop-j.j (omega (arith, c.loop-j-test.true, c.cols-j-end.ensures.count)) ∙ sym y)

pub loop-j-preserved : goal.loop-j-preserved
loop-j-preserved c =
    let x = ap (λ r. get_or r c.loop-j.j 0) c.row-row.ensures.row ∙ row-entry c.args.b.now.rows c.args.i c.loop-j.j in
    let y = ap (λ r. get_or r c.args.i 0) c.row.ensures.row ∙ row-entry c.args.a.now.rows c.loop-j.j c.args.i in
    transposed_row-more c.args.a.now c.args.b.now c.args.i c.loop-j.j (sym x ∙ c.if-value-expected.false ∙ y) c.loop-j.invariant
