use Rattle.std.proofs.Common.{◌≡◌, true, false, refl}
use Rattle.object_lines.proofs.RowReading.{row_taken, no_row, longer_row}
use Rattle.object_lines.proofs.rows.add_entries.Goals as goal

pub returns-then-not-taken : goal.returns-then-not-taken
returns-then-not-taken c = no_row c.args.field c.args.width c.args.tokens (rw c.if-not-taken.true at c.in_ok-taken.ensures)

pub returns-then-not-is_done : goal.returns-then-not-is_done
returns-then-not-is_done c = longer_row c.args.field c.args.width _ _ c.args.tokens _ (λ e. let g : false ≡ true = c.if-not-is_done.ensures.1 e in cc) (rw c.if-not-taken.false at c.in_ok-taken.ensures)

pub returns : goal.returns
returns c = row_taken c.args.field c.args.width _ _ c.args.tokens _ (c.if-not-is_done.ensures.0 refl) (rw c.if-not-taken.false at c.in_ok-taken.ensures)
