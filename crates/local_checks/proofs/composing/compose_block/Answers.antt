use Rattle.std.proofs.Common.{arith}
use Rattle.local_checks.proofs.Composites.{block_step}
use Rattle.local_checks.proofs.composing.compose_block.Goals as goal

pub loop-i-preserved : goal.loop-i-preserved
loop-i-preserved c =
    let s = block_step c.args.field c.args.size c.args.from c.loop-i.i _ _ c.args.left.now c.args.right.now c.args.out.now c.loop-i.out c.multiply_row.new.out c.loop-i-test.true (omega arith) (omega arith)
    c.loop-i.invariant.elements c.multiply_row.ensures.elements c.requires.left_inside (omega (arith, c.loop-i.auto.out, c.requires.inside)) c.multiply_row.ensures.product c.loop-i.invariant.written in
    record { written = s.0; elements = s.1 }
