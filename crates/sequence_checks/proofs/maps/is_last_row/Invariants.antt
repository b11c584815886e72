use Rattle.sequence_checks.specs.Maps.{IsLastRow}
use Rattle.sequence_checks.proofs.maps.is_last_row.Given as goal

abbrev pub invariant-loop-c : goal.invariant-loop-c
invariant-loop-c l = IsLastRow l.g l.j l.start l.r l.c
