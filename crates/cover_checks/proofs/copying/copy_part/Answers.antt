use Rattle.std.proofs.Common.{◌≡◌, refl, arith}
use Rattle.fp_linear.proofs.Slices.{IsWritten-none, IsWritten-more, AreElements-set}
use Rattle.cover_checks.proofs.copying.copy_part.Goals as goal

pub loop-j-init : goal.loop-j-init
loop-j-init c = record { written = IsWritten-none _ _ _; elements = λ q h k. k }

pub loop-j-preserved : goal.loop-j-preserved
loop-j-preserved c = record {
  written = IsWritten-more _ c.loop-j.target c.args.at c.loop-j.j _ _ c.loop-j.invariant.written (omega arith) refl;
  elements = λ q h k. AreElements-set q c.loop-j.target _ _ (c.loop-j.invariant.elements q h k) (h.small _);
}

pub returns-clause-written : goal.returns-clause-written
returns-clause-written c = let end : c.loop-j.j ≡ c.args.count = omega arith in rw end at c.loop-j.invariant.written
