use Rattle.alg_table.specs.TableView.{IsTable}
use Rattle.resolution_checks.specs.Steps.{ComposeUpTo}
use Rattle.resolution_checks.proofs.composing.is_complex.Given as goal

abbrev pub invariant-loop-k : goal.invariant-loop-k
invariant-loop-k l = (t : IsTable l.table.header l.table.words) → ComposeUpTo l.table.header l.table.words t l.a l.terms l.k
