use Rattle.alg_table.specs.TableView.{IsTable}
use Rattle.resolution_checks.specs.Steps.{OntoBelow}
use Rattle.resolution_checks.proofs.exactness.is_onto.Given as goal

abbrev pub invariant-loop-w : goal.invariant-loop-w
invariant-loop-w l = (t : IsTable l.table.header l.table.words) → OntoBelow l.table.header l.table.words t l.a l.terms l.w
