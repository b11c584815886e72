use Rattle.std.proofs.Common.{◌++◌, ap, ◌∙◌}
use Rattle.claim_lines.specs.Spelling.{tail_form}
use Rattle.text_lines.specs.Parts.{joined}
use Rattle.claim_lines.proofs.WrittenLines.{then, rule_text}
use Rattle.claim_lines.proofs.writing.push_rule.Goals as goal

pub returns : goal.returns
returns c =
    let o = c.args.out.now.items in
    then o _ _ _ _ (then o _ _ _ _ (then o _ _ _ _ (then o _ _ _ _ (then o _ _ _ _ (then o _ _ _ _ c.in_ok-extend_from_slice.ensures.items c.in_ok-push_path.ensures) c.in_ok-extend_from_slice-2.ensures.items)
    (c.in_ok-push_tail.ensures ∙ ap (λ ts. c.extend_from_slice-2.new.self.items ++ joined 32 (tail_form c.args.quiver.now ts)) c.as_slice.ensures))
    c.in_ok-extend_from_slice-3.ensures.items) c.in_ok-push_number.ensures) c.in_ok-push.ensures.items
    ∙ ap (λ r. o ++ r) (rule_text c.args.quiver.now c.args.rule.now)
