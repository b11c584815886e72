use Rattle.std.proofs.Common.{arith}
use Rattle.claim_blocks.proofs.LocalReading.{ideal_reads, ideal_large}
use Rattle.claim_blocks.proofs.local_block.LocalBlock.take_ideal.Goals as goal

pub returns-then-count-width-gt67108864 : goal.returns-then-count-width-gt67108864
returns-then-count-width-gt67108864 c =
    ideal_large c.args.self.now c.width-width.result c.in-Some.count c.args.tokens c.width-width.ensures c.width-width.type_inv c.in-Some.ensures.0 c.if-count-width-gt67108864.true c.in-Some.ensures.1

pub returns : goal.returns
returns c =
    ideal_reads c.args.self.now c.field.result c.width-width.result c.in-Some.count c.new.result c.args.tokens c.field.ensures c.width-width.ensures c.in-Some.ensures.0
    (omega (arith, c.if-count-width-gt67108864.false)) c.in-Some.ensures.1 c.new.ensures
