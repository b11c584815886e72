use Rattle.claim_blocks.proofs.RowBlocks.{rows_taken}
use Rattle.claim_blocks.proofs.row_block.RowBlock.take.Goals as goal

pub returns : goal.returns
returns c = rows_taken c.args.self.now c.in_ok-taken.taken c.take.new.self c.args.tokens c.in_ok-taken.ensures
