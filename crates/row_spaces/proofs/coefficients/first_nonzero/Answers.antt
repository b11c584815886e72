use Rattle.std.proofs.Common.{◌≡◌, length, sym, ap, ◌∙◌, arith}
use Rattle.linear_algebra.specs.Reduced.{leading}
use Rattle.linear_algebra.proofs.Reduced.{leading_is, leading_all_zero}
use Rattle.row_spaces.proofs.coefficients.first_nonzero.Goals as goal

pub returns-then-row-j-ne0 : goal.returns-then-row-j-ne0
returns-then-row-j-ne0 c =
    let width : length c.row-row.result.now ≡ c.args.matrix.now.col_count = ap length c.row-row.ensures.row ∙ c.row-row.ensures.matrix.grid.width c.args.i c.requires in
    sym (leading_is c.row-row.result.now c.loop-j.j (omega (arith, width, c.loop-j-test.true, c.cols-j-end.ensures.count)) c.loop-j.invariant c.if-row-j-ne0.true) ∙ ap leading c.row-row.ensures.row

pub returns : goal.returns
returns c =
    let width : length c.row-row.result.now ≡ c.args.matrix.now.col_count = ap length c.row-row.ensures.row ∙ c.row-row.ensures.matrix.grid.width c.args.i c.requires in
    c.cols.ensures.count ∙ sym width ∙ leading_all_zero c.row-row.result.now (λ j h. c.loop-j.invariant j (omega (arith, h, width, c.loop-j-test.false, c.cols-j-end.ensures.count))) ∙ ap leading c.row-row.ensures.row
