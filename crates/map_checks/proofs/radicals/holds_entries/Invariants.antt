use Rattle.module_checks.specs.VertexMatrices.{HoldsEntries}
use Rattle.map_checks.proofs.radicals.holds_entries.Given as goal

abbrev pub invariant-loop-e : goal.invariant-loop-e
invariant-loop-e l = HoldsEntries l.matrix l.e l.entries
