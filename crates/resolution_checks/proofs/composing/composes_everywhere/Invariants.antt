use Rattle.alg_table.specs.TableView.{IsTable}
use Rattle.resolution_checks.specs.Steps.{ComposeBelow}
use Rattle.resolution_checks.proofs.composing.composes_everywhere.Given as goal

abbrev pub invariant-loop-w : goal.invariant-loop-w
invariant-loop-w l = (t : IsTable l.table.header l.table.words) → ComposeBelow l.table.header l.table.words t l.a l.terms l.k l.w
