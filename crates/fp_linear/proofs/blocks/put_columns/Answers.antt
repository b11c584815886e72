use Rattle.std.proofs.Common.{arith}
use Rattle.fp_linear.proofs.BlockLoops.{HasColumns-none, HasColumns-more}
use Rattle.fp_linear.proofs.blocks.put_columns.Goals as goal

pub loop-i-init : goal.loop-i-init
loop-i-init c = record { columns = HasColumns-none _ _ _ _; elements = λ q h k. k }

pub loop-i-preserved : goal.loop-i-preserved
loop-i-preserved c = record {
  columns = HasColumns-more c.args.width c.args.count c.args.first c.loop-i.i c.args.source.now _ _ _ (omega arith) c.loop-i.invariant.columns c.put_column.ensures.column;
  elements = λ q h k. c.put_column.ensures.elements q h (c.loop-i.invariant.elements q h k);
}
