use Rattle.std.proofs.Common.{◌≡◌, ◌+◌, ◌*◌, arith}
use Rattle.linear_algebra.specs.FieldLaws.{one-lt-order}
use Rattle.fp_linear.proofs.Slices.{AreElements-set}
use Rattle.module_checks.proofs.PathImages.{units-more, units_all}
use Rattle.module_checks.proofs.long_paths.write_unit_rows.Goals as goal

pub loop-i-init : goal.loop-i-init
loop-i-init c = record { units = record { units = λ r i l h. absurd (omega arith); behind = λ p h. c.clear.ensures.clear.clear p (omega arith) }; elements = c.clear.ensures.elements }

pub loop-i-preserved : goal.loop-i-preserved
loop-i-preserved c = record {
  units = units-more c.args.count c.loop-i.i c.loop-i.entries (omega (arith, c.loop-i-test.true)) (omega (arith, c.requires, c.loop-i.auto.entries, c.clear.auto.entries)) c.loop-i.invariant.units;
  elements = λ q. AreElements-set q c.loop-i.entries (c.loop-i.i * c.args.count + c.loop-i.i) 1 (c.loop-i.invariant.elements q) (one-lt-order q);
}

pub returns-clause-units : goal.returns-clause-units
returns-clause-units c =
    let e : c.loop-i.i ≡ c.args.count = omega (arith, c.loop-i-test.false, c.loop-i.auto.i-end) in
    units_all c.args.count c.loop-i.i c.loop-i.entries e c.loop-i.invariant.units
