use Rattle.std.proofs.Common.{◌≡◌, true, false}
use Rattle.claim_blocks.proofs.LocalReading.{ideal_row}
use Rattle.claim_blocks.proofs.local_block.LocalBlock.take_row.Goals as goal

pub returns : goal.returns
returns c = ideal_row c.args.self.now c.in_ok-taken.taken c.take.new.self c.args.tokens (λ e. let g : false ≡ true = c.if-is_whole.ensures.1 e in cc) c.in_ok-taken.ensures
