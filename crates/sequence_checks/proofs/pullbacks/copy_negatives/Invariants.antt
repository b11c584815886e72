use Rattle.std.specs.Prelude.{slice_index}
use Rattle.linear_algebra.specs.Field.{neg}
use Rattle.fp_linear.specs.Slices.{IsWritten}
use Rattle.sequence_checks.proofs.pullbacks.copy_negatives.Given as goal

abbrev pub invariant-loop-c : goal.invariant-loop-c
invariant-loop-c l = IsWritten l.initial.into l.into l.start l.c (λ k. neg l.field (slice_index l.row k))
