use Rattle.sequence_checks.specs.Maps.{IsWidened}
use Rattle.sequence_checks.proofs.maps.is_widened.Given as goal

abbrev pub invariant-loop-r : goal.invariant-loop-r
invariant-loop-r l = IsWidened l.field l.f l.j l.i l.r
