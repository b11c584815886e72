use Rattle.linear_algebra.specs.FieldLaws.{one-lt-order}
use Rattle.fp_linear.proofs.Slices.{AreElements-set}
use Rattle.std.proofs.Common.{arith}
use Rattle.extension_checks.proofs.FollowValues.{unit_written}
use Rattle.extension_checks.proofs.values.put_unit.Goals as goal

pub returns-clause-unit : goal.returns-clause-unit
returns-clause-unit c = unit_written c.args.c c.clear.new.entries c.clear.ensures.clear (omega (arith, c.requires, c.clear.auto.entries))

pub returns-clause-elements : goal.returns-clause-elements
returns-clause-elements c = λ q. AreElements-set q c.clear.new.entries c.args.c 1 (c.clear.ensures.elements q) (one-lt-order q)
