use Rattle.std.proofs.Common.{◌++◌, ◌<◌, length, ap, ◌∙◌, arith}
use Rattle.header_text.proofs.Joining.{text_take, line_step}
use Rattle.header_text.specs.Spelling.{vertex_line}
use Rattle.text_lines.specs.Strict.{strict_line}
use Rattle.header_text.proofs.writing.push_vertices.Goals as goal

pub loop-name-preserved : goal.loop-name-preserved
loop-name-preserved c =
    let inside : c.loop-name.name-index < length c.args.names.now = omega (arith, c.loop-name-test.true) in
    line_step _ _ _ _ _ _ c.loop-name.invariant
    (c.in_ok-push_vertex.ensures ∙ ap (λ r. c.loop-name.out.items ++ strict_line (vertex_line r)) (c.name-item.is))
    (text_take vertex_line c.args.names.now c.loop-name.name-index c.name-item.result inside)
