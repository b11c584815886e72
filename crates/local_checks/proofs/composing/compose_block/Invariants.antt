use Rattle.std.proofs.Common.{◌*◌}
use Rattle.fp_linear.specs.Slices.{AreElements, IsWritten}
use Rattle.local_checks.specs.Composites.{block_product}
use Rattle.local_checks.proofs.composing.compose_block.Given as goal

abbrev pub invariant-loop-i : goal.invariant-loop-i
invariant-loop-i l = record {
  written : IsWritten l.initial.out l.out l.from (l.i * l.size) (block_product l.field l.size l.from l.left l.right);
  elements : AreElements l.field l.out;
}
