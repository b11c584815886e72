use Rattle.alg_table.specs.TableView.{IsTable}
use Rattle.module_checks.proofs.Squares.{AreSquaresUpTo}
use Rattle.translate_checks.specs.Steps.{module_in, injectives_in}
use Rattle.translate_checks.proofs.homs.is_hom_into.Given as goal

abbrev pub invariant-loop-k : goal.invariant-loop-k
invariant-loop-k l = (t : IsTable l.table.header l.table.words) → AreSquaresUpTo (module_in l.table.header l.table.words t l.side l.m) (injectives_in l.table.header l.table.words t l.side l.vertices) l.matrices l.k
