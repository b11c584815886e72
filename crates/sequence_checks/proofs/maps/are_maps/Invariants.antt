use Rattle.alg_table.specs.TableView.{IsTable}
use Rattle.translate_checks.specs.Steps.{module_in, injectives_in}
use Rattle.sequence_checks.specs.Maps.{AreMapsUpTo}
use Rattle.sequence_checks.proofs.maps.are_maps.Given as goal

abbrev pub invariant-loop-w : goal.invariant-loop-w
invariant-loop-w l = (t : IsTable l.table.header l.table.words) → AreMapsUpTo (module_in l.table.header l.table.words t l.side l.n) (module_in l.table.header l.table.words t l.side l.e)
    (injectives_in l.table.header l.table.words t l.side l.syzygy) (module_in l.table.header l.table.words t l.side l.m) l.f l.g l.left l.middle l.w
