use Rattle.std.proofs.Common.{get_or, ap, ◌∙◌, arith}
use Rattle.linear_algebra.proofs.Rows.{row-entry}
use Rattle.sequence_checks.proofs.MapSteps.{widened-inside, widened-behind}
use Rattle.sequence_checks.proofs.maps.widened_entry.Goals as goal

pub returns-then-j-cols : goal.returns-then-j-cols
returns-then-j-cols c = widened-inside c.args.a.now c.args.r c.args.j _ (omega (arith, c.if-j-cols.true, c.cols.ensures.count)) (ap (λ r. get_or r c.args.j 0) c.row.ensures.row ∙ row-entry c.args.a.now.rows c.args.r c.args.j)

pub returns : goal.returns
returns c = widened-behind c.args.a.now c.args.r c.args.j (omega (arith, c.if-j-cols.false, c.cols.ensures.count))
