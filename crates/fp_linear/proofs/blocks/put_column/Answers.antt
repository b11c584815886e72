use Rattle.std.proofs.Common.{◌≡◌, refl, arith}
use Rattle.fp_linear.specs.Slices.{copied}
use Rattle.fp_linear.proofs.Slices.{AreElements-set}
use Rattle.fp_linear.proofs.BlockLoops.{HasColumn-none, HasColumn-more}
use Rattle.fp_linear.proofs.blocks.put_column.Goals as goal

pub loop-j-init : goal.loop-j-init
loop-j-init c = record { column = HasColumn-none _ _ _ _; elements = λ q h k. k }

pub loop-j-preserved : goal.loop-j-preserved
loop-j-preserved c = record {
  column = HasColumn-more c.args.width c.args.count c.loop-j.j c.args.column _ (copied c.args.from c.args.source.now) _ c.loop-j.target c.requires.column_inside c.loop-j-test.true (omega arith) refl c.loop-j.invariant.column;
  elements = λ q h k. AreElements-set q c.loop-j.target _ _ (c.loop-j.invariant.elements q h k) (h.small _);
}

pub returns-clause-column : goal.returns-clause-column
returns-clause-column c = let end : c.loop-j.j ≡ c.args.count = omega arith in rw end at c.loop-j.invariant.column
