use Rattle.translate_checks.specs.Duals.{IsTransposedRow}
use Rattle.translate_checks.proofs.duals.is_transposed_row.Given as goal

abbrev pub invariant-loop-j : goal.invariant-loop-j
invariant-loop-j l = IsTransposedRow l.a l.b l.i l.j
