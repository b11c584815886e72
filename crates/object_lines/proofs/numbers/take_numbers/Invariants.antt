use Rattle.std.proofs.Common.{decimal}
use Rattle.object_lines.specs.Reading.{Takes, IsAtMost}
use Rattle.object_lines.proofs.numbers.take_numbers.Given as goal

abbrev pub invariant-loop-taken : goal.invariant-loop-taken
invariant-loop-taken l = Takes decimal (IsAtMost l.most) l._taken l.fn.numbers l.numbers l.fn.tokens l.tokens
