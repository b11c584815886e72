use Rattle.path_reduction.specs.FirstGaps.{ForReductions, ClosesBefore}
use Rattle.path_reduction.proofs.gaps.first_gap_in.Given as goal

abbrev pub invariant-loop-at : goal.invariant-loop-at
invariant-loop-at l = ForReductions l.header l.rules (λ becomes. ClosesBefore l.header l.rules becomes l.path l.at)
