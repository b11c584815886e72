use Rattle.std.proofs.Common.{refl}
use Rattle.residue_checks.proofs.local.first_failing_behind.Goals as goal

pub returns-then-not-is_printed_ideal : goal.returns-then-not-is_printed_ideal
returns-then-not-is_printed_ideal c = (2, (tt, (c.requires.nonzero, (refl, c.if-not-is_printed_ideal.ensures.ideal))))

pub returns-then-not-is_printed_power : goal.returns-then-not-is_printed_power
returns-then-not-is_printed_power c = (3, (tt, (c.requires.nonzero, (c.if-not-is_printed_ideal.ensures.ideal, (refl, c.if-not-is_printed_power.ensures.power)))))

pub returns-then-not-is_printed_residue : goal.returns-then-not-is_printed_residue
returns-then-not-is_printed_residue c =
    (4, (tt, (c.requires.nonzero, (c.if-not-is_printed_ideal.ensures.ideal, (c.if-not-is_printed_power.ensures.power, (refl, c.if-not-is_printed_residue.ensures.residue))))))

pub returns : goal.returns
returns c = (tt, (c.requires.nonzero, (c.if-not-is_printed_ideal.ensures.ideal, (c.if-not-is_printed_power.ensures.power, (c.if-not-is_printed_residue.ensures.residue, tt)))))
