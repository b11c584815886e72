use Rattle.alg_table.specs.TableView.{IsTable}
use Rattle.module_checks.proofs.Squares.{AreSquaresUpTo}
use Rattle.translate_checks.specs.Across.{across}
use Rattle.translate_checks.specs.Steps.{module_across}
use Rattle.translate_checks.proofs.homs.is_hom_from.Given as goal

abbrev pub invariant-loop-k : goal.invariant-loop-k
invariant-loop-k l = (t : IsTable l.table.header l.table.words) → AreSquaresUpTo (across l.table.header l.table.words t l.side l.vertices) (module_across l.table.header l.table.words t l.side l.m) l.matrices l.k
