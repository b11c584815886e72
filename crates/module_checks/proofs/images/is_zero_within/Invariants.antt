use Rattle.module_checks.specs.PathImages.{IsZeroWithin}
use Rattle.module_checks.proofs.images.is_zero_within.Given as goal

abbrev pub invariant-loop-k : goal.invariant-loop-k
invariant-loop-k l = IsZeroWithin l.row l.from l.k
