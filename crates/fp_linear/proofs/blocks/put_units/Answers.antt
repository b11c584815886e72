use Rattle.std.proofs.Common.{arith}
use Rattle.linear_algebra.specs.FieldLaws.{one-lt-order}
use Rattle.fp_linear.proofs.Slices.{AreElements-set}
use Rattle.fp_linear.proofs.BlockLoops.{HasUnits-none, HasUnits-more}
use Rattle.fp_linear.proofs.blocks.put_units.Goals as goal

pub loop-i-init : goal.loop-i-init
loop-i-init c = record { units = HasUnits-none _ _ _ c.requires.zero; elements = λ q h. h }

pub loop-i-preserved : goal.loop-i-preserved
loop-i-preserved c = record {
  units = HasUnits-more c.args.rows c.args.width c.args.from c.loop-i.i _ c.loop-i.entries (omega arith) c.requires.fits c.loop-i-test.true c.loop-i.invariant.units;
  elements = λ q h. AreElements-set q c.loop-i.entries _ _ (c.loop-i.invariant.elements q h) (one-lt-order q);
}
