use Rattle.alg_table.specs.TableView.{IsTable}
use Rattle.module_types.specs.Readings.{read}
use Rattle.resolution_checks.specs.Steps.{words_of_side}
use Rattle.cover_checks.specs.Covers.{AreMinimalTerms}
use Rattle.cover_checks.proofs.minimal.is_minimal.Given as goal

abbrev pub invariant-loop-k : goal.invariant-loop-k
invariant-loop-k l = (t : IsTable l.table.header l.table.words) → AreMinimalTerms (words_of_side l.table.header l.table.words t l.a l.terms) (read l.table.header l.a) l.terms l.k
