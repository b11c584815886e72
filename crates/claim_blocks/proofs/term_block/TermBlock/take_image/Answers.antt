use Rattle.std.proofs.Common.{arith, ap, ◌∙◌}
use Rattle.claim_blocks.specs.TermBlocks.{settled}
use Rattle.claim_blocks.proofs.TermReading.{takes_image}
use Rattle.claim_blocks.proofs.term_block.TermBlock.take_image.Goals as goal

pub returns : goal.returns
returns c =
    let b = c.args.self.now in
    takes_image c.args.header.now b c.args.tokens c.settle.new.self c.image_width.result c.in-Some.row c.image_width.ensures (rw c.in-Some.is at c.in_ok-row.ensures)
    (let l = c.if-len.false in let i = c.len.ensures in let v = c.len-2.ensures in omega (arith, l, i, v))
    (c.in_ok-settle.ensures ∙ ap (λ rows. settled (record b { images = rows })) c.in_ok-push.ensures)
