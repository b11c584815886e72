use Rattle.std.proofs.Common.{◌++◌, ◌<◌, length, ap, ◌∙◌, arith}
use Rattle.header_text.proofs.Joining.{text_take, line_step}
use Rattle.header_text.specs.Spelling.{relation_line}
use Rattle.text_lines.specs.Strict.{strict_line}
use Rattle.header_text.proofs.writing.push_relations.Goals as goal

pub loop-relation-preserved : goal.loop-relation-preserved
loop-relation-preserved c =
    let inside : c.loop-relation.relation-index < length c.args.relations.now = omega (arith, c.loop-relation-test.true) in
    line_step _ _ _ _ _ _ c.loop-relation.invariant
    (c.in_ok-push_relation.ensures ∙ ap (λ r. c.loop-relation.out.items ++ strict_line ((relation_line c.args.quiver.now) r)) (c.relation-item.is))
    (text_take (relation_line c.args.quiver.now) c.args.relations.now c.loop-relation.relation-index c.relation-item.result inside)
