use Rattle.std.proofs.Common.{◌+◌}
use Rattle.std.specs.Prelude.{slice_index}
use Rattle.fp_linear.specs.Slices.{IsWritten}
use Rattle.translate_checks.proofs.transposed.copy_part.Given as goal

abbrev pub invariant-loop-c : goal.invariant-loop-c
invariant-loop-c l = IsWritten l.initial.into l.into l.start l.c (λ k. slice_index l.row (l.from + k))
