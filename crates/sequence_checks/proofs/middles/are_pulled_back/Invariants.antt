use Rattle.alg_table.specs.TableView.{IsTable}
use Rattle.sequence_checks.specs.Pullbacks.{ArePulledBack}
use Rattle.sequence_checks.proofs.middles.are_pulled_back.Given as goal

abbrev pub invariant-loop-w : goal.invariant-loop-w
invariant-loop-w l = (t : IsTable l.table.header l.table.words) → ArePulledBack l.table.header l.table.words t l.side l.m l.cover l.functional l.syzygy l.e l.matrices l.w
