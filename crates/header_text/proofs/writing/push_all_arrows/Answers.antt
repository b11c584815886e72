use Rattle.std.proofs.Common.{◌++◌, ◌<◌, length, get_or, ap, ◌∙◌, arith}
use Rattle.header_text.proofs.Joining.{text_take, line_step}
use Rattle.header_text.specs.Spelling.{arrow_line}
use Rattle.text_lines.specs.Strict.{strict_line}
use Rattle.header_text.proofs.writing.push_all_arrows.Goals as goal

pub loop-arrow-preserved : goal.loop-arrow-preserved
loop-arrow-preserved c =
    let inside : c.loop-arrow.arrow-index < length c.args.quiver.now.arrows = omega (arith, c.loop-arrow-test.true, ap length c.as_slice-arrow-items.ensures) in
    line_step _ _ _ _ _ _ c.loop-arrow.invariant
    (c.in_ok-push_arrow.ensures ∙ ap (λ r. c.loop-arrow.out.items ++ strict_line ((arrow_line c.args.quiver.now) r)) (c.arrow-item.is ∙ ap (λ r. get_or r c.loop-arrow.arrow-index c.arrow-item.result) c.as_slice-arrow-items.ensures))
    (text_take (arrow_line c.args.quiver.now) c.args.quiver.now.arrows c.loop-arrow.arrow-index c.arrow-item.result inside)
