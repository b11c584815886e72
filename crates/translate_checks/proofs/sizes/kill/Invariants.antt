use Rattle.alg_table.specs.TableView.{IsTable}
use Rattle.translate_checks.specs.Steps.{Kill}
use Rattle.translate_checks.proofs.sizes.kill.Given as goal

abbrev pub invariant-loop-w : goal.invariant-loop-w
invariant-loop-w l = (t : IsTable l.table.header l.table.words) → Kill l.table.header l.table.words t l.side l.cover l.syzygy l.m l.matrices l.w
