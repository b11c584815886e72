use Rattle.claim_text.proofs.ItemReading.{counted_modules, counted_maps}
use Rattle.claim_text.proofs.part.Part.set_block.Goals as goal

pub close_claim-requires-clause-modules : goal.close_claim-requires-clause-modules
close_claim-requires-clause-modules c = counted_modules c.args.self.now c.requires.modules

pub close_claim-requires-clause-maps : goal.close_claim-requires-clause-maps
close_claim-requires-clause-maps c = counted_maps c.args.self.now c.requires.maps
