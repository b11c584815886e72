use Rattle.std.proofs.Common.{◌≡◌}
use Rattle.quiver_paths.proofs.CountingSteps.{CountsFirst}
use Rattle.quiver_paths.proofs.counting.one_arrow_more.Given as goal

abbrev pub invariant-loop-arrow : goal.invariant-loop-arrow
invariant-loop-arrow l = (l.arrow-items ≡ l.quiver.arrows) × CountsFirst l.quiver l.counts l.arrow-index l.longer
