use Rattle.claim_text.proofs.part.Part.may_begin.Goals as goal

pub begin-requires : goal.begin-requires
begin-requires c = c.context.ensures.named
