use Rattle.alg_table.specs.TableView.{IsTable}
use Rattle.module_types.specs.Readings.{read}
use Rattle.resolution_checks.specs.Steps.{words_of_side}
use Rattle.cover_checks.specs.Covers.{AreMinimalBelow}
use Rattle.cover_checks.proofs.minimal.is_minimal_term.Given as goal

abbrev pub invariant-loop-w : goal.invariant-loop-w
invariant-loop-w l = (t : IsTable l.table.header l.table.words) → AreMinimalBelow (words_of_side l.table.header l.table.words t l.a l.terms) (read l.table.header l.a) l.terms l.k l.w
