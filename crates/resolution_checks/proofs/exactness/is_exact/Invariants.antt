use Rattle.alg_table.specs.TableView.{IsTable}
use Rattle.resolution_checks.specs.Steps.{ExactUpTo}
use Rattle.resolution_checks.proofs.exactness.is_exact.Given as goal

abbrev pub invariant-loop-k : goal.invariant-loop-k
invariant-loop-k l = (t : IsTable l.table.header l.table.words) → ExactUpTo l.table.header l.table.words t l.a l.terms l.k
