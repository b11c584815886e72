use Rattle.std.proofs.Common.{◌≡◌, sym, ap, ◌∙◌, arith, get_or, length}
use Rattle.linear_algebra.specs.Reduced.{leading, pivot}
use Rattle.linear_algebra.specs.Rows.{entry}
use Rattle.linear_algebra.proofs.Rows.{row-entry}
use Rattle.module_checks.proofs.reduced.row_fits.Goals as goal

pub returns-then-row-lead-ne1 : goal.returns-then-row-lead-ne1
returns-then-row-lead-ne1 c fits =
    let lead : c.leading_of-lead.result ≡ pivot c.args.matrix.now.rows c.args.i = c.leading_of-lead.ensures ∙ ap leading c.row-row.ensures.row in
    c.if-row-lead-ne1.true
    (ap (λ r. get_or r c.leading_of-lead.result 0) c.row-row.ensures.row ∙ row-entry c.args.matrix.now.rows c.args.i c.leading_of-lead.result ∙ ap (entry c.args.matrix.now.rows c.args.i) lead ∙ fits.one)

pub returns : goal.returns
returns c =
    let lead : c.leading_of-lead.result ≡ pivot c.args.matrix.now.rows c.args.i = c.leading_of-lead.ensures ∙ ap leading c.row-row.ensures.row in
    let width = c.row-row.ensures.matrix.grid.width c.args.i c.requires in
    let len : length c.row-row.result.now ≡ c.args.matrix.now.col_count = ap length c.row-row.ensures.row ∙ width in
    record {
      nonzero = omega arith;
      one = sym (ap (λ r. get_or r c.leading_of-lead.result 0) c.row-row.ensures.row ∙ row-entry c.args.matrix.now.rows c.args.i c.leading_of-lead.result ∙ ap (entry c.args.matrix.now.rows c.args.i) lead) ∙ c.if-row-lead-ne1.false;
      pairs = λ k l. c.loop-k.invariant k (omega (arith, c.rows-k-end.ensures.count));
    }
