use Rattle.linear_algebra.specs.Field.{Gf}
use Rattle.fp_linear.specs.Slices.{AreElements, IsWritten, copied}
use Rattle.extension_checks.proofs.folding.copy_numbers.Given as goal

abbrev pub invariant-loop-k : goal.invariant-loop-k
invariant-loop-k l = record {
  written : IsWritten l.initial.into l.into l.at l.k (copied l.from l.source);
  elements : (q : Gf) → AreElements q l.source → AreElements q l.initial.into → AreElements q l.into;
}
