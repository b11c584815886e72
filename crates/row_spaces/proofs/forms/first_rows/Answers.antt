use Rattle.std.proofs.Common.{◌≡◌, take, arith}
use Rattle.linear_algebra.specs.Rows.{rows_of}
use Rattle.row_spaces.proofs.PushedRows.{HasRows-none, HasRows-next, rows_of-first}
use Rattle.row_spaces.proofs.forms.first_rows.Goals as goal

pub loop-i-init : goal.loop-i-init
loop-i-init c = rw c.in_ok-entries.ensures.items (HasRows-none _ _ _)

pub loop-i-preserved : goal.loop-i-preserved
loop-i-preserved c =
    let m = c.args.matrix.now in
    rw (c.in_ok-extend_from_slice.ensures.items, c.row.ensures.row)
    (HasRows-next m.field m.row_count m.col_count c.loop-i.i m.rows c.loop-i.entries.items c.row.ensures.matrix.grid (omega (arith, c.loop-i-test.true, c.requires)) c.loop-i.invariant)

pub returns : goal.returns
returns c =
    let m = c.args.matrix.now in
    let k = c.args.count in
    let end : c.loop-i.i ≡ k = omega (arith, c.loop-i-test.false, c.loop-i.auto.i-end) in
    let rows : rows_of k m.col_count c.loop-i.entries.items ≡ take k m.rows = rows_of-first m.field m.row_count m.col_count k m.rows c.loop-i.entries.items c.field.ensures.matrix.grid c.requires (rw end at c.loop-i.invariant) in
    rw (c.field.ensures.field, c.cols-cols.ensures.count, c.deref.ensures.value, rows) at c.in_ok-rows.ensures
