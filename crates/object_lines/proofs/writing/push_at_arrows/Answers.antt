use Rattle.std.proofs.Common.{◌<◌, ◌++◌, length, ap, ◌∙◌, arith}
use Rattle.header_text.specs.Spelling.{arrow_name, text_of}
use Rattle.object_lines.proofs.WrittenLines.{at_some, at_step}
use Rattle.object_lines.proofs.writing.push_at_arrows.Goals as goal

pub loop-a-preserved : goal.loop-a-preserved
loop-a-preserved c =
    let inside : c.loop-a.a < length c.args.matrices.now = omega arith in
    at_step (arrow_name c.args.quiver.now) _ _ _ c.args.matrices.now c.loop-a.a c.index-matrices-a.result inside c.loop-a.invariant
    (c.in_ok-push_at_some.ensures ∙ (ap (λ r. c.loop-a.out.items ++ text_of (at_some r c.index-matrices-a.result)) c.arrow_text.ensures
    ∙ ap (λ r. c.loop-a.out.items ++ text_of (at_some (arrow_name c.args.quiver.now c.loop-a.a) r)) c.index-matrices-a.is))
