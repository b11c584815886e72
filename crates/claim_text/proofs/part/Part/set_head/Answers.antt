use Rattle.claim_text.proofs.ItemReading.{room_modules, room_maps}
use Rattle.claim_text.proofs.part.Part.set_head.Goals as goal

pub close_claim-requires-clause-modules : goal.close_claim-requires-clause-modules
close_claim-requires-clause-modules c = room_modules c.args.self.now c.args.line c.args.head c.requires

pub close_claim-requires-clause-maps : goal.close_claim-requires-clause-maps
close_claim-requires-clause-maps c = room_maps c.args.self.now c.args.line c.args.head c.requires

pub close_claim-requires-in-Map-clause-modules : goal.close_claim-requires-in-Map-clause-modules
close_claim-requires-in-Map-clause-modules c = room_modules c.args.self.now c.args.line c.args.head c.requires

pub close_claim-requires-in-Map-clause-maps : goal.close_claim-requires-in-Map-clause-maps
close_claim-requires-in-Map-clause-maps c = room_maps c.args.self.now c.args.line c.args.head c.requires

pub close_claim-requires-in-Kernel-clause-modules : goal.close_claim-requires-in-Kernel-clause-modules
close_claim-requires-in-Kernel-clause-modules c = room_modules c.args.self.now c.args.line c.args.head c.requires

pub close_claim-requires-in-Kernel-clause-maps : goal.close_claim-requires-in-Kernel-clause-maps
close_claim-requires-in-Kernel-clause-maps c = room_maps c.args.self.now c.args.line c.args.head c.requires

pub close_claim-requires-in-Cokernel-clause-modules : goal.close_claim-requires-in-Cokernel-clause-modules
close_claim-requires-in-Cokernel-clause-modules c = room_modules c.args.self.now c.args.line c.args.head c.requires

pub close_claim-requires-in-Cokernel-clause-maps : goal.close_claim-requires-in-Cokernel-clause-maps
close_claim-requires-in-Cokernel-clause-maps c = room_maps c.args.self.now c.args.line c.args.head c.requires

pub close_claim-requires-in-Radical-clause-modules : goal.close_claim-requires-in-Radical-clause-modules
close_claim-requires-in-Radical-clause-modules c = room_modules c.args.self.now c.args.line c.args.head c.requires

pub close_claim-requires-in-Radical-clause-maps : goal.close_claim-requires-in-Radical-clause-maps
close_claim-requires-in-Radical-clause-maps c = room_maps c.args.self.now c.args.line c.args.head c.requires

pub close_claim-requires-in-Decomposition-clause-modules : goal.close_claim-requires-in-Decomposition-clause-modules
close_claim-requires-in-Decomposition-clause-modules c = room_modules c.args.self.now c.args.line c.args.head c.requires

pub close_claim-requires-in-Decomposition-clause-maps : goal.close_claim-requires-in-Decomposition-clause-maps
close_claim-requires-in-Decomposition-clause-maps c = room_maps c.args.self.now c.args.line c.args.head c.requires
