use Rattle.std.proofs.Common.{◌+◌, get_or, sym, ap, ◌∙◌, arith}
use Rattle.linear_algebra.proofs.Rows.{row-entry}
use Rattle.sequence_checks.proofs.MapSteps.{last_row-more}
use Rattle.sequence_checks.proofs.maps.is_last_row.Goals as goal

pub returns-then-value-expected : goal.returns-then-value-expected
returns-then-value-expected c = λ t.
    let x = ap (λ r. get_or r c.loop-c.c 0) c.row-row.ensures.row ∙ row-entry c.args.g.now.rows c.args.r c.loop-c.c in
    let y = ap (λ r. get_or r (c.args.start + c.loop-c.c) 0) c.row.ensures.row ∙ row-entry c.args.j.now.rows c.args.r (c.args.start + c.loop-c.c) in
    c.if-value-expected.true (x ∙ t.at c.loop-c.c (omega (arith, c.loop-c-test.true, c.cols-c-end.ensures.count)) ∙ sym y)

pub loop-c-preserved : goal.loop-c-preserved
loop-c-preserved c =
    let x = ap (λ r. get_or r c.loop-c.c 0) c.row-row.ensures.row ∙ row-entry c.args.g.now.rows c.args.r c.loop-c.c in
    let y = ap (λ r. get_or r (c.args.start + c.loop-c.c) 0) c.row.ensures.row ∙ row-entry c.args.j.now.rows c.args.r (c.args.start + c.loop-c.c) in
    last_row-more c.args.g.now c.args.j.now c.args.start c.args.r c.loop-c.c (sym x ∙ c.if-value-expected.false ∙ y) c.loop-c.invariant
