use Rattle.linear_algebra.specs.Field.{order}
use Rattle.local_modules.specs.Algebra.{power_in}
use Rattle.claim_conditions.specs.LocalConditions.{families_of}
use Rattle.local_checks.specs.Families.{family}
use Rattle.local_checks.proofs.Remaining.{remainder_written}
use Rattle.local_checks.proofs.residues.write_remainder.Goals as goal

pub returns-clause-remainder : goal.returns-clause-remainder
returns-clause-remainder c =
    remainder_written c.args.header.now c.args.m.now c.args.factor c.args.x.now c.args.rows.now c.args.pivots.now c.write_power.new.out c.add_multiple.new.target c.clear_row.new.x c.requires.x c.write_power.ensures.out c.requires.space
    c.add_multiple.ensures.elements (power_in (families_of c.args.header.now c.args.m.now) (family c.args.header.now c.args.m.now c.args.x.now) (order c.args.header.now.field)) c.write_power.ensures.power c.add_multiple.ensures.sum c.clear_row.ensures.remainder
