use Rattle.std.proofs.Common.{decimal}
use Rattle.object_lines.specs.Reading.{IsElement}
use Rattle.object_lines.proofs.Taking.{no_more, takes_more}
use Rattle.object_lines.proofs.numbers.take_entries.Goals as goal

pub returns-in_default : goal.returns-in_default
returns-in_default c = no_more decimal (IsElement c.args.field) c.loop-taken._taken c.args.count _ _ c.args.tokens.now c.loop-taken.tokens c.loop-taken.invariant c.loop-taken-test.true c.in_default.ensures

pub loop-taken-preserved : goal.loop-taken-preserved
loop-taken-preserved c = takes_more decimal (IsElement c.args.field) c.loop-taken._taken _ _ _ _ _ _ c.in-Some.entry c.loop-taken.invariant c.in-Some.ensures.0 c.in_ok-push.ensures.items c.in-Some.ensures.1
