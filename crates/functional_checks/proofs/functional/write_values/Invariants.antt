use Rattle.functional_checks.specs.Values.{HoldsValues}
use Rattle.functional_checks.proofs.functional.write_values.Given as goal

abbrev pub invariant-loop-i : goal.invariant-loop-i
invariant-loop-i l = HoldsValues l.header l.m l.cover l.functional l.basis l.i l.values
