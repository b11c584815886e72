use Rattle.std.proofs.Common.{◌≡◌, ◌<◌, sym, arith, subst}
use Rattle.linear_algebra.specs.Field.{order}
use Rattle.linear_algebra.specs.Matrix.{delta_below}
use Rattle.fp_linear.proofs.Slices.{IsWritten-none, IsWritten-more, AreElements-set}
use Rattle.cover_checks.proofs.copying.put_unit.Goals as goal

pub loop-j-init : goal.loop-j-init
loop-j-init c = record { written = IsWritten-none _ _ _; elements = λ q k. k }

pub loop-j-preserved : goal.loop-j-preserved
loop-j-preserved c = record {
  written = IsWritten-more _ c.loop-j.target c.args.at c.loop-j.j _ _ c.loop-j.invariant.written (omega arith) c.unit_entry.ensures;
  elements = λ q k. AreElements-set q c.loop-j.target _ _ (c.loop-j.invariant.elements q k) (subst (λ z. z < order q) (sym c.unit_entry.ensures) (delta_below q c.args.i c.loop-j.j));
}

pub returns-clause-written : goal.returns-clause-written
returns-clause-written c = let end : c.loop-j.j ≡ c.args.count = omega arith in rw end at c.loop-j.invariant.written
