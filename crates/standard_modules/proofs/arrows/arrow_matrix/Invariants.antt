use Rattle.std.proofs.Common.{length}
use Rattle.alg_table.specs.TableView.{IsTable}
use Rattle.row_spaces.specs.PushedRows.{HasRows}
use Rattle.standard_modules.specs.StandardModules.{projective_rep}
use Rattle.standard_modules.proofs.arrows.arrow_matrix.Given as goal

abbrev pub invariant-loop-i : goal.invariant-loop-i
invariant-loop-i l = (t : IsTable l.table.header l.table.words)
    → HasRows l.table.header.field (length l.targets) l.i ((projective_rep l.table.header l.table.words t l.fn.side l.fn.v).mat l.arrow).at l.entries.items
