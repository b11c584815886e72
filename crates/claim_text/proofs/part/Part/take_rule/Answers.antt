use Rattle.std.proofs.Common.{ap, ◌∙◌}
use Rattle.claim_text.specs.Part.{at_rules}
use Rattle.claim_text.proofs.TakenLines.{takes_rule}
use Rattle.claim_text.proofs.part.Part.take_rule.Goals as goal

pub returns : goal.returns
returns c =
    let p = c.args.self.now in
    let known = rw c.in-Some.is at c.in_ok-rule.ensures in
    takes_rule p c.args.n c.header-header.result.now c.len.result c.len-2.result c.args.tokens c.in-Some.rule _ c.header-header.ensures.front c.header-header.ensures.same c.len.ensures c.len-2.ensures known
    (c.in_ok-set_rules.ensures ∙ ap (λ rs. at_rules (record p { rules = rs }) c.args.n) c.in_ok-push.ensures)
