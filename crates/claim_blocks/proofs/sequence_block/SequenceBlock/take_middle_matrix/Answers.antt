use Rattle.claim_blocks.proofs.SequenceReading.{middle_matrix_taken}
use Rattle.claim_blocks.proofs.sequence_block.SequenceBlock.take_middle_matrix.Goals as goal

pub returns : goal.returns
returns c = middle_matrix_taken c.args.header.now c.args.self.now c.args.tokens c.in_ok-taken.taken c.take.new.self c.in_ok-taken.ensures
