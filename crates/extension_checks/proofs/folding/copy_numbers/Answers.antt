use Rattle.std.proofs.Common.{◌≡◌, refl, arith}
use Rattle.fp_linear.proofs.Slices.{IsWritten-none, IsWritten-more, AreElements-set}
use Rattle.extension_checks.proofs.folding.copy_numbers.Goals as goal

pub loop-k-init : goal.loop-k-init
loop-k-init c = record { written = IsWritten-none _ _ _; elements = λ q h k. k }

pub loop-k-preserved : goal.loop-k-preserved
loop-k-preserved c = record {
  written = IsWritten-more _ c.loop-k.into c.args.at c.loop-k.k _ _ c.loop-k.invariant.written (omega arith) refl;
  elements = λ q h k. AreElements-set q c.loop-k.into _ _ (c.loop-k.invariant.elements q h k) (h.small _);
}

pub returns-clause-written : goal.returns-clause-written
returns-clause-written c = let end : c.loop-k.k ≡ c.args.count = omega arith in rw end at c.loop-k.invariant.written
