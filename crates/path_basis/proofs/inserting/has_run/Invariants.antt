use Rattle.std.proofs.Common.{◌≡◌, drop}
use Rattle.path_basis.specs.Measure.{runs_in}
use Rattle.path_basis.proofs.inserting.has_run.Given as goal

abbrev pub invariant-loop-start : goal.invariant-loop-start
invariant-loop-start l = runs_in l.run (drop l.start l.arrows) ≡ runs_in l.run l.arrows
