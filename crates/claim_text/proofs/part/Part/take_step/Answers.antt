use Rattle.claim_text.proofs.TakenLines.{takes_step, leads_step}
use Rattle.claim_text.proofs.part.Part.take_step.Goals as goal

pub returns : goal.returns
returns c =
    let p = c.args.self.now in
    takes_step p c.args.n c.header-header.result.now c.len.result c.args.tokens c.in-Some.step _ c.header-header.ensures.front c.header-header.ensures.same c.len.ensures c.in-Some.ensures
    (leads_step p c.args.n c.len-2.result c.steps_place-self.result c.push.new.self c.in-Some.step c.steps_place-self.ensures c.len-2.ensures c.in_ok-push.ensures)
