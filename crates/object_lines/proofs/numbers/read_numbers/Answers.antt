use Rattle.std.proofs.Common.{decimal}
use Rattle.object_lines.specs.Reading.{IsAtMost}
use Rattle.object_lines.proofs.Taking.{from_none}
use Rattle.object_lines.proofs.numbers.read_numbers.Goals as goal

pub returns-then-not-taken : goal.returns-then-not-taken
returns-then-not-taken c = λ x is e. from_none decimal (IsAtMost c.args.most) c.args.count c.args.tokens (rw c.if-not-taken.true at c.in_ok-taken.ensures) x is.counted is.small e
