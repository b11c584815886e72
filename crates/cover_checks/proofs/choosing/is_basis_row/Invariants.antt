use Rattle.cover_checks.specs.Choosing.{IsBasisRow}
use Rattle.cover_checks.proofs.choosing.is_basis_row.Given as goal

abbrev pub invariant-loop-i : goal.invariant-loop-i
invariant-loop-i l = IsBasisRow l.width l.c l.basis l.image l.i
