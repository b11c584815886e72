use Rattle.std.proofs.Common.{◌∙◌, sym}
use Rattle.proj_cover.proofs.Columns.{pivot_passed, column_added}
use Rattle.proj_cover.proofs.generators.add_column.Goals as goal

pub returns-then-has_pivot : goal.returns-then-has_pivot
returns-then-has_pivot c = λ q Q X before d p e. pivot_passed X c.args.w c.args.c before (p ∙ sym c.has_pivot.ensures ∙ c.if-has_pivot.true) c.args.term.now e

pub returns : goal.returns
returns c = λ q Q X before d p e.
    column_added X c.args.w c.args.c before c.args.width c.in_ok-image.image c.args.term.now (record { vertices = c.push.new.self; images = c.push-2.new.self })
    (p ∙ sym c.has_pivot.ensures ∙ c.if-has_pivot.false) d c.in_ok-image.ensures e c.in_ok-push.ensures c.in_ok-push-2.ensures
