use Rattle.std.proofs.Common.{sym, ap, ◌∙◌, ◌+◌, arith, get_or}
use Rattle.linear_algebra.proofs.Rows.{row-entry}
use Rattle.map_checks.proofs.BlockParts.{row_more}
use Rattle.map_checks.proofs.sums.is_block_row.Goals as goal

pub returns-then-value-expected : goal.returns-then-value-expected
returns-then-value-expected c h = c.if-value-expected.true
    (ap (λ r. get_or r c.loop-j.j 0) c.row-row.ensures.row ∙ row-entry c.args.s.now.rows (c.args.i + c.args.r) c.loop-j.j ∙ h.at c.loop-j.j (omega (arith, c.loop-j-test.true, c.cols-j-end.ensures.count)) ∙ sym c.block_entry-expected.ensures)

pub loop-j-preserved : goal.loop-j-preserved
loop-j-preserved c = row_more c.args.s.now c.args.p.now c.args.i c.args.k c.args.r c.loop-j.j c.loop-j.invariant
    (sym (ap (λ r. get_or r c.loop-j.j 0) c.row-row.ensures.row ∙ row-entry c.args.s.now.rows (c.args.i + c.args.r) c.loop-j.j) ∙ c.if-value-expected.false ∙ c.block_entry-expected.ensures)
