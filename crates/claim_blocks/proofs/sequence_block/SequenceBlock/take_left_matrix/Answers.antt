use Rattle.std.proofs.Common.{◌≡◌, true, false, refl}
use Rattle.claim_blocks.proofs.SequenceReading.{middle_taken, left_taken}
use Rattle.claim_blocks.proofs.sequence_block.SequenceBlock.take_left_matrix.Goals as goal

pub returns-then-is_whole : goal.returns-then-is_whole
returns-then-is_whole c = middle_taken c.args.header.now c.args.self.now c.args.tokens c.take_middle.result c.take_middle.new.self (c.if-is_whole.ensures.0 refl) c.take_middle.ensures

pub returns : goal.returns
returns c = left_taken c.args.header.now c.args.self.now c.args.tokens c.in_ok-taken.taken c.take.new.self (λ e. let g : false ≡ true = c.if-is_whole.ensures.1 e in cc) c.in_ok-taken.ensures
