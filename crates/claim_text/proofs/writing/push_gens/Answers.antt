use Rattle.std.proofs.Common.{◌++◌, ◌<◌, length, ap, ◌∙◌, arith}
use Rattle.text_lines.specs.Strict.{strict_line}
use Rattle.header_text.proofs.Joining.{text_take, line_step}
use Rattle.object_lines.specs.Spelling.{gen_line}
use Rattle.claim_text.proofs.writing.push_gens.Goals as goal

pub loop-image-preserved : goal.loop-image-preserved
loop-image-preserved c =
    let inside : c.loop-image.image-index < length c.args.images.now = omega (arith, c.loop-image-test.true) in
    line_step _ _ _ _ _ _ c.loop-image.invariant
    (c.in_ok-push_gen_line.ensures ∙ ap (λ r. c.loop-image.out.items ++ strict_line (gen_line r)) (c.as_slice.ensures ∙ c.image-item.is))
    (text_take gen_line c.args.images.now c.loop-image.image-index c.image-item.result inside)
