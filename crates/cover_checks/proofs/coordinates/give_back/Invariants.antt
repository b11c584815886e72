use Rattle.cover_checks.specs.Bases.{GivesBack}
use Rattle.cover_checks.proofs.coordinates.give_back.Given as goal

abbrev pub invariant-loop-j : goal.invariant-loop-j
invariant-loop-j l = GivesBack l.field l.count l.width l.coordinates l.basis l.row l.j
