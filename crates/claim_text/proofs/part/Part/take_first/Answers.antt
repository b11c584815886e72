use Rattle.std.proofs.Common.{refl}
use Rattle.claim_text.proofs.ItemReading.{first_taken}
use Rattle.claim_text.proofs.part.Part.take_first.Goals as goal

pub returns : goal.returns
returns c = first_taken c.args.self.now c.args.tokens c.take_item.new.self c.in_ok-taken.taken (c.if-not-may_end.ensures.0 refl) c.in_ok-taken.ensures
