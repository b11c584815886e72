use Rattle.std.proofs.Common.{sym, ap, ◌∙◌, arith, get_or}
use Rattle.linear_algebra.specs.Reduced.{leading}
use Rattle.linear_algebra.specs.Rows.{entry}
use Rattle.linear_algebra.proofs.Rows.{row-entry}
use Rattle.module_checks.proofs.reduced.pair_fits.Goals as goal

pub returns-then-row-lead-ne0 : goal.returns-then-row-lead-ne0
returns-then-row-lead-ne0 c fits = c.if-row-lead-ne0.true
    (ap (λ r. get_or r c.args.lead 0) c.row-row.ensures.row ∙ row-entry c.args.matrix.now.rows c.args.k c.args.lead ∙ ap (entry c.args.matrix.now.rows c.args.k) c.requires.lead
    ∙ fits.cleared (λ e. c.if-i-k.false (sym e)))

pub returns-then-k-i : goal.returns-then-k-i
returns-then-k-i c = record {
  further = λ l. absurd (omega arith);
  cleared = λ d. sym (ap (λ r. get_or r c.args.lead 0) c.row-row.ensures.row ∙ row-entry c.args.matrix.now.rows c.args.k c.args.lead ∙ ap (entry c.args.matrix.now.rows c.args.k) c.requires.lead) ∙ c.if-row-lead-ne0.false;
}

pub returns-then-leading_of-lead : goal.returns-then-leading_of-lead
returns-then-leading_of-lead c fits =
    let e = c.leading_of.ensures ∙ ap leading c.row-row.ensures.row in
    let ne = c.if-i-k.false in
    let f = fits.further (omega arith) in
    omega (arith, c.requires.lead)

pub returns : goal.returns
returns c =
    let e = c.leading_of.ensures ∙ ap leading c.row-row.ensures.row in
    record {
      further = λ l. omega (arith, c.requires.lead);
      cleared = λ d. sym (ap (λ r. get_or r c.args.lead 0) c.row-row.ensures.row ∙ row-entry c.args.matrix.now.rows c.args.k c.args.lead ∙ ap (entry c.args.matrix.now.rows c.args.k) c.requires.lead) ∙ c.if-row-lead-ne0.false;
    }
