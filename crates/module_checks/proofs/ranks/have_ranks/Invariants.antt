use Rattle.module_checks.specs.VertexMatrices.{HaveRanks}
use Rattle.module_checks.proofs.ranks.have_ranks.Given as goal

abbrev pub invariant-loop-v : goal.invariant-loop-v
invariant-loop-v l = HaveRanks l.v l.part l.whole l.matrices
