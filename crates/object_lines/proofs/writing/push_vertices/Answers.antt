use Rattle.std.proofs.Common.{◌∷◌, ◌++◌, ap, ◌∙◌}
use Rattle.header_text.specs.Spelling.{vertex_name}
use Rattle.object_lines.proofs.WrittenLines.{items_step}
use Rattle.object_lines.proofs.writing.push_vertices.Goals as goal

pub loop-vertex-preserved : goal.loop-vertex-preserved
loop-vertex-preserved c =
    items_step (vertex_name c.args.quiver.now) _ _ _ c.args.vertices.now c.loop-vertex.vertex-index 0 c.loop-vertex-test.true c.loop-vertex.invariant
    (c.in_ok-push_token.ensures ∙ ap (λ t. c.loop-vertex.out.items ++ 32 ∷ t) c.vertex_text.ensures)
