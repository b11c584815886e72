use Rattle.claim_text.proofs.ItemReading.{no_module_item}
use Rattle.claim_text.proofs.part.Part.module_item.Goals as goal

pub returns-in_default : goal.returns-in_default
returns-in_default c = no_module_item c.args.self.now c.args.tokens c.requires (rw c.in_default.is at c.in_ok-head.ensures)
