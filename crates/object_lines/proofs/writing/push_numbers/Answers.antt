use Rattle.std.proofs.Common.{decimal}
use Rattle.object_lines.proofs.WrittenLines.{items_step}
use Rattle.object_lines.proofs.writing.push_numbers.Goals as goal

pub loop-n-preserved : goal.loop-n-preserved
loop-n-preserved c = items_step decimal _ _ _ c.args.numbers.now c.loop-n.n-index 0 c.loop-n-test.true c.loop-n.invariant c.in_ok-push_number.ensures
