use Rattle.std.proofs.Common.{refl}
use Rattle.claim_blocks.proofs.SequenceReading.{functional_reads}
use Rattle.claim_blocks.proofs.sequence_block.SequenceBlock.take_functional.Goals as goal

pub returns : goal.returns
returns c = functional_reads c.args.header.now c.args.self.now c.as_slice.result.now c.in-Some.phi c.args.tokens _ c.as_slice.ensures (rw c.in-Some.is at c.in_ok-phi.ensures) refl
