use Rattle.std.proofs.Common.{◌≡◌, true, false}
use Rattle.object_lines.proofs.ModuleReading.{sum_large}
use Rattle.object_lines.proofs.objects.are_small.Goals as goal

pub returns-then-dim-left : goal.returns-then-dim-left
returns-then-dim-left c = (
  λ f. let g : false ≡ true = f in cc,
  λ small. absurd (sum_large c.args.dims.now c.loop-dim.dim-index c.loop-dim.left c.loop-dim-test.true c.loop-dim.invariant c.if-dim-left.true small),
)
