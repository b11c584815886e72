use Rattle.std.proofs.Common.{arith}
use Rattle.module_types.specs.Readings.{read}
use Rattle.map_checks.proofs.ArrowRows.{spans_more}
use Rattle.map_checks.proofs.radicals.span_arrows.Goals as goal

pub loop-v-preserved : goal.loop-v-preserved
loop-v-preserved c = spans_more (read c.args.header.now c.args.x.now) c.args.i.now c.loop-v.v c.index.result.now (omega (arith, c.loop-v-test.true, c.len-v-end.ensures)) c.index.ensures c.loop-v.invariant c.if-not-spans_at.ensures
