use Rattle.alg_table.specs.TableView.{IsTable}
use Rattle.module_types.specs.Readings.{read}
use Rattle.resolution_checks.specs.Steps.{words_of_side}
use Rattle.cover_checks.specs.Choosing.{ArePassed}
use Rattle.cover_checks.proofs.choosing.meet_vertices.Given as goal

abbrev pub invariant-loop-w : goal.invariant-loop-w
invariant-loop-w l = (t : IsTable l.table.header l.table.words) → ArePassed (words_of_side l.table.header l.table.words t l.a l.terms) (read l.table.header l.a) l.terms l.k l.w l.met
