use Rattle.alg_table.specs.TableView.{IsTable}
use Rattle.sequence_checks.specs.Sizes.{HavePulledSizes}
use Rattle.sequence_checks.proofs.sizes.have_pulled_sizes.Given as goal

abbrev pub invariant-loop-w : goal.invariant-loop-w
invariant-loop-w l = (t : IsTable l.table.header l.table.words) → HavePulledSizes l.table.header l.table.words t l.side l.m l.cover l.functional l.syzygy l.dims l.w
