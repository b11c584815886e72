use Rattle.module_types.specs.Readings.{read}
use Rattle.map_checks.specs.ArrowRows.{SpanUpTo}
use Rattle.map_checks.proofs.radicals.span_arrows.Given as goal

abbrev pub invariant-loop-v : goal.invariant-loop-v
invariant-loop-v l = SpanUpTo (read l.header l.x) l.v l.i
