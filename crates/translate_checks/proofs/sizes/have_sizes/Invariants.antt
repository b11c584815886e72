use Rattle.alg_table.specs.TableView.{IsTable}
use Rattle.translate_checks.specs.Steps.{HaveSizes}
use Rattle.translate_checks.proofs.sizes.have_sizes.Given as goal

abbrev pub invariant-loop-w : goal.invariant-loop-w
invariant-loop-w l = (t : IsTable l.table.header l.table.words) → HaveSizes l.table.header l.table.words t l.side l.cover l.syzygy l.dims l.w
