use Rattle.claim_text.proofs.ItemReading.{no_map_item}
use Rattle.claim_text.proofs.part.Part.map_item.Goals as goal

pub returns-in_default : goal.returns-in_default
returns-in_default c = no_map_item c.args.self.now c.args.tokens c.requires (c.in_default.ensures)
