use Rattle.std.proofs.Common.{decimal}
use Rattle.std.specs.Prelude.{slice_index}
use Rattle.linear_algebra.specs.BlockFamilies.{total}
use Rattle.object_lines.specs.Reading.{Takes, IsElement}
use Rattle.claim_blocks.proofs.functional.take_parts.Given as goal

abbrev pub invariant-loop-j : goal.invariant-loop-j
invariant-loop-j l = Takes decimal (IsElement l.field) (total l.j (slice_index l.counts)) l.fn.entries.items l.entries.items l.fn.tokens l.tokens
