use Rattle.map_checks.proofs.PartTests.{AreOrderedUpTo}
use Rattle.map_checks.proofs.decompositions.are_in_order.Given as goal

abbrev pub invariant-loop-i : goal.invariant-loop-i
invariant-loop-i g l = AreOrderedUpTo (g.P.Parts.modules l.parts) l.i
