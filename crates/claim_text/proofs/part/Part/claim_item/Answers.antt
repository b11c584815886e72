use Rattle.claim_text.proofs.ItemReading.{no_claim_item}
use Rattle.claim_text.proofs.part.Part.claim_item.Goals as goal

pub returns-in_default : goal.returns-in_default
returns-in_default c = no_claim_item c.args.self.now c.args.tokens c.requires (rw c.in_default.is at c.in_ok-line.ensures)
