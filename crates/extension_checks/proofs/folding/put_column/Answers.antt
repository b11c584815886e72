use Rattle.std.proofs.Common.{◌≡◌, refl, arith}
use Rattle.fp_linear.proofs.Slices.{AreElements-set}
use Rattle.fp_linear.proofs.Meeting.{row_step}
use Rattle.extension_checks.proofs.Lines.{column-none, column-more}
use Rattle.extension_checks.proofs.folding.put_column.Goals as goal

pub overflow_mul-block : goal.overflow_mul-block
overflow_mul-block c = let k = row_step c.args.width c.loop-z.z c.args.count (omega (arith, c.loop-z-test.true)) in omega (arith, k, c.requires.inside)

pub loop-z-init : goal.loop-z-init
loop-z-init c = record { written = column-none _ _ _ c.requires.place _; elements = λ q h k. k }

pub loop-z-preserved : goal.loop-z-preserved
loop-z-preserved c =
    let k = row_step c.args.width c.loop-z.z c.args.count (omega (arith, c.loop-z-test.true)) in
    record {
      written = column-more c.args.width c.args.place _ c.requires.place c.loop-z.z _ _ c.loop-z.block c.loop-z.invariant.written (omega (arith, k, c.requires.inside, c.requires.place, c.loop-z.auto.block)) refl;
      elements = λ q h k. AreElements-set q c.loop-z.block _ _ (c.loop-z.invariant.elements q h k) (h.small _);
    }

pub returns-clause-written : goal.returns-clause-written
returns-clause-written c = let end : c.loop-z.z ≡ c.args.count = omega arith in rw end at c.loop-z.invariant.written
