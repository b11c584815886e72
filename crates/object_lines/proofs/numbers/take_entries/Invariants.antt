use Rattle.std.proofs.Common.{decimal}
use Rattle.object_lines.specs.Reading.{Takes, IsElement}
use Rattle.object_lines.proofs.numbers.take_entries.Given as goal

abbrev pub invariant-loop-taken : goal.invariant-loop-taken
invariant-loop-taken l = Takes decimal (IsElement l.field) l._taken l.fn.entries.items l.entries.items l.fn.tokens l.tokens
