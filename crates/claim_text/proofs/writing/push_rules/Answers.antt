use Rattle.std.proofs.Common.{◌++◌, ◌<◌, length, ap, ◌∙◌, arith}
use Rattle.header_text.proofs.Joining.{text_take, line_step}
use Rattle.claim_lines.specs.Spelling.{rule_line}
use Rattle.text_lines.specs.Strict.{strict_line}
use Rattle.claim_text.proofs.writing.push_rules.Goals as goal

pub loop-rule-preserved : goal.loop-rule-preserved
loop-rule-preserved c =
    let inside : c.loop-rule.rule-index < length c.args.rules.now = omega (arith, c.loop-rule-test.true) in
    line_step _ _ _ _ _ _ c.loop-rule.invariant
    (c.in_ok-push_rule.ensures ∙ ap (λ r. c.loop-rule.out.items ++ strict_line (rule_line c.args.quiver.now r)) (c.rule-item.is))
    (text_take (rule_line c.args.quiver.now) c.args.rules.now c.loop-rule.rule-index c.rule-item.result inside)
