use Rattle.written_modules.proofs.Squares.{map_refused, map_passes}
use Rattle.written_modules.proofs.holding.map_holds.Goals as goal

pub returns-in-Some-clause-tested : goal.returns-in-Some-clause-tested
returns-in-Some-clause-tested c = map_refused c.args.header.now c.args.a.now c.args.b.now c.args.matrices.now c.in-Some.arrow c.in-Some.ensures

pub returns-clause-tested : goal.returns-clause-tested
returns-clause-tested c = map_passes c.args.header.now c.args.a.now c.args.b.now c.args.matrices.now c.in_default.ensures
