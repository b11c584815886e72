use Rattle.std.proofs.Common.{ℕ}
use Rattle.std.specs.List.{AllZip}
use Rattle.par_phase.proofs.in_turn.Given as goal

abbrev pub invariant-loop-item : goal.invariant-loop-item
invariant-loop-item g l = AllZip (goal.F-post g l.fn.f) l.yielded l.answers.items
