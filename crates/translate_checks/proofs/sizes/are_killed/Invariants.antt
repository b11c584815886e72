use Rattle.alg_table.specs.TableView.{IsTable}
use Rattle.translate_checks.specs.Steps.{AreKilled}
use Rattle.translate_checks.proofs.sizes.are_killed.Given as goal

abbrev pub invariant-loop-w : goal.invariant-loop-w
invariant-loop-w l = (t : IsTable l.table.header l.table.words) → AreKilled l.table.header l.table.words t l.side l.cover l.syzygy l.m l.matrices l.w
