use Rattle.std.proofs.Common.{◌<◌, ◌++◌, length, ap, ◌∙◌, arith}
use Rattle.header_text.specs.Spelling.{vertex_name, text_of}
use Rattle.object_lines.proofs.WrittenLines.{at_some, at_step}
use Rattle.object_lines.proofs.writing.push_at_vertices.Goals as goal

pub loop-v-preserved : goal.loop-v-preserved
loop-v-preserved c =
    let inside : c.loop-v.v < length c.args.matrices.now = omega arith in
    at_step (vertex_name c.args.quiver.now) _ _ _ c.args.matrices.now c.loop-v.v c.index-matrices-v.result inside c.loop-v.invariant
    (c.in_ok-push_at_some.ensures ∙ (ap (λ r. c.loop-v.out.items ++ text_of (at_some r c.index-matrices-v.result)) c.vertex_text.ensures
    ∙ ap (λ r. c.loop-v.out.items ++ text_of (at_some (vertex_name c.args.quiver.now c.loop-v.v) r)) c.index-matrices-v.is))
