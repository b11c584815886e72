use Rattle.std.proofs.Common.{arith}
use Rattle.module_faults.proofs.ShortRelations.{has_one}
use Rattle.module_faults.proofs.short_relations.has_short_term.Goals as goal

pub returns-then-len-bound : goal.returns-then-len-bound
returns-then-len-bound c = has_one c.args.bound c.args.relation.now.terms c.loop-k.k c.index.result.now (omega (arith, c.loop-k-test.true, c.len-k-end.ensures)) c.index.ensures (omega (arith, c.if-len-bound.true, c.len.ensures))
