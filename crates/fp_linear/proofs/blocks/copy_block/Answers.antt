use Rattle.fp_linear.proofs.BlockLoops.{HasBlock-none, HasBlock-more}
use Rattle.fp_linear.proofs.blocks.copy_block.Goals as goal

pub loop-i-init : goal.loop-i-init
loop-i-init c = record { block = HasBlock-none _ _ _ _ _ _; elements = λ q h k. k }

pub loop-i-preserved : goal.loop-i-preserved
loop-i-preserved c = record {
  block = HasBlock-more c.args.width c.args.corner.width c.args.count c.loop-i.i c.args.corner.first c.args.corner.from c.args.source.now _ c.loop-i.target _ c.requires.fits c.copy_part.ensures.written c.loop-i.invariant.block;
  elements = λ q h k. c.copy_part.ensures.elements q h (c.loop-i.invariant.elements q h k);
}
