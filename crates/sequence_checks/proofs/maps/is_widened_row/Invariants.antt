use Rattle.sequence_checks.specs.Maps.{IsWidenedRow}
use Rattle.sequence_checks.proofs.maps.is_widened_row.Given as goal

abbrev pub invariant-loop-c : goal.invariant-loop-c
invariant-loop-c l = IsWidenedRow l.field l.f l.j l.i l.r l.c
