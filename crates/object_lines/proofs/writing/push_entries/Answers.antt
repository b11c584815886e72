use Rattle.std.proofs.Common.{decimal}
use Rattle.object_lines.proofs.WrittenLines.{items_step}
use Rattle.object_lines.proofs.writing.push_entries.Goals as goal

pub loop-entry-preserved : goal.loop-entry-preserved
loop-entry-preserved c = items_step decimal _ _ _ c.args.entries.now c.loop-entry.entry-index 0 c.loop-entry-test.true c.loop-entry.invariant c.in_ok-push_number.ensures
