use Rattle.std.proofs.Common.{length, ap}
use Rattle.path_basis.proofs.Kept.{kept_none}
use Rattle.path_basis.proofs.pruning.keep_marked.Goals as goal

pub loop-place-init : goal.loop-place-init
loop-place-init c = record {
  kept = kept_none c.args.steps.now c.args.marks.now _ _ c.new-kept.ensures.items c.new-numbers.ensures.items;
  count = ap length c.new-numbers.ensures.items;
}
