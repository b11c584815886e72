use Rattle.std.proofs.Common.{◌-◌, ◌∙◌, sym, arith}
use Rattle.linear_algebra.proofs.Rows.{row-entry}
use Rattle.row_spaces.proofs.LastRows.{last_is, zero_from}
use Rattle.row_spaces.proofs.quotients.last_nonzero.Goals as goal

pub returns-then-row-column-ne0 : goal.returns-then-row-column-ne0
returns-then-row-column-ne0 c = λ p h d z.
    let m = c.args.matrix.now in
    last_is m.row_count c.args.column _ p m.rows (omega (arith, c.loop-i.auto.i, c.loop-i-test.true, c.rows-i.ensures.count)) (λ e. c.if-row-column-ne0.true (rw c.row.ensures.row (row-entry m.rows (c.loop-i.i - 1) c.args.column ∙ e))) (λ k b l. c.loop-i.invariant k (omega arith) l) h d z

pub loop-i-preserved : goal.loop-i-preserved
loop-i-preserved c = zero_from c.args.matrix.now.row_count c.args.column c.loop-i.i c.args.matrix.now.rows (sym (row-entry c.args.matrix.now.rows (c.loop-i.i - 1) c.args.column) ∙ rw c.row.ensures.row at c.if-row-column-ne0.false) c.loop-i.invariant
