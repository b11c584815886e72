use Rattle.written_modules.proofs.Fitting.{NoneNamed}
use Rattle.written_modules.proofs.building.line_at.Given as goal

abbrev pub invariant-loop-j : goal.invariant-loop-j
invariant-loop-j l = NoneNamed l.name l.lines l.j
