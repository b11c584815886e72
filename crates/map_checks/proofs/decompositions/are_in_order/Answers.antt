use Rattle.std.proofs.Common.{arith}
use Rattle.map_checks.proofs.PartTests.{order_there}
use Rattle.map_checks.proofs.decompositions.are_in_order.Goals as goal

pub returns-then-not-comes_before : goal.returns-then-not-comes_before
returns-then-not-comes_before g c h = c.if-not-comes_before.ensures
    (order_there (g.P.Parts.modules c.args.parts.now) c.loop-i.i c.part.result.now c.part-in-loop-i.result.now (omega (arith, c.loop-i.auto.i)) (omega (arith, c.loop-i-test.true, c.count-i-end.ensures)) c.part.ensures c.part-in-loop-i.ensures h)
