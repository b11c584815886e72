use Rattle.module_checks.specs.VertexMatrices.{HoldsEntries}
use Rattle.module_checks.proofs.ranks.copy_entries.Given as goal

abbrev pub invariant-loop-e : goal.invariant-loop-e
invariant-loop-e l = HoldsEntries l.matrix l.e l.entries
