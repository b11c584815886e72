use Rattle.std.proofs.Common.{refl}
use Rattle.object_lines.proofs.RowReading.{no_row}
use Rattle.claim_blocks.specs.SequenceBlocks.{functional_width}
use Rattle.claim_blocks.proofs.FunctionalReading.{entries_row}
use Rattle.claim_blocks.proofs.functional.read_parts.Goals as goal

pub returns-then-not-taken : goal.returns-then-not-taken
returns-then-not-taken c = no_row c.args.field (functional_width c.args.counts.now) c.args.tokens (rw c.if-not-taken.true at c.in_ok-taken.ensures)

pub returns : goal.returns
returns c =
    entries_row c.args.field (functional_width c.args.counts.now) c.new-entries.result.items c.take_parts.new.entries.items c.from_vec.result c.args.tokens c.take_parts.new.tokens c.new-entries.ensures.items
    (c.if-not-is_done.ensures.0 refl) c.from_vec.ensures (rw c.if-not-taken.false at c.in_ok-taken.ensures)
