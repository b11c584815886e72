use Rattle.std.proofs.Common.{◌≡◌, ◌<◌}
use Rattle.linear_algebra.specs.Field.{order}
use Rattle.module_checks.specs.RowWalks.{row_entry}
use Rattle.term_rows.proofs.modules.entry_times.Given as goal

abbrev pub invariant-loop-t : goal.invariant-loop-t
invariant-loop-t l = record { sum : l.sum ≡ row_entry l.field l.t l.row l.matrix l.j; small : l.sum < order l.field }
