use Rattle.claim_blocks.proofs.LocalReading.{power_reads}
use Rattle.claim_blocks.proofs.local_block.LocalBlock.take_power.Goals as goal

pub returns : goal.returns
returns c = power_reads c.args.self.now c.in-Some.power c.args.tokens c.requires c.in-Some.ensures.0 c.in-Some.ensures.1
