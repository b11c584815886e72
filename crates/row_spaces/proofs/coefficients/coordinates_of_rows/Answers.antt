use Rattle.std.proofs.Common.{◌≡◌, ◌≤◌, ◌*◌, length, ap, ◌∙◌, arith}
use Rattle.linear_algebra.specs.Reduced.{pivots_of}
use Rattle.linear_algebra.specs.Rows.{IsGrid}
use Rattle.fp_linear.specs.Slices.{AreElements}
use Rattle.row_spaces.specs.PushedRows.{HasRows, picked_entry}
use Rattle.row_spaces.proofs.PushedRows.{AreElements-row}
use Rattle.row_spaces.proofs.ReducedForms.{IsMatrix-written}
use Rattle.row_spaces.proofs.PivotEntries.{pivots_inside, HasRows-picked, rows_coordinates, coordinates_fit}
use Rattle.row_spaces.proofs.coefficients.coordinates_of_rows.Goals as goal

pub push_at-requires : goal.push_at-requires
push_at-requires c = λ k l.
    let b = c.args.basis.now in
    let ps : c.deref.result.now ≡ pivots_of b.rows = c.deref.ensures.value ∙ c.in_ok-pivots.ensures in
    let width : length c.row.result.now ≡ b.col_count = ap length c.row.ensures.row ∙ c.row.ensures.matrix.grid.width c.loop-i.i (omega (arith, c.loop-i-test.true, c.rows-rows.ensures.count)) ∙ c.requires.width in
    rw (ps, width) (pivots_inside b.field b.row_count b.col_count b.rows c.field-field.ensures.matrix.grid c.requires.reduced.0 c.requires.reduced.1 k (rw ps at l))

pub loop-i-preserved : goal.loop-i-preserved
loop-i-preserved c =
    let b = c.args.basis.now in
    let m = c.args.matrix.now in
    let ps : c.deref.result.now ≡ pivots_of b.rows = c.deref.ensures.value ∙ c.in_ok-pivots.ensures in
    let small : AreElements m.field c.row.result.now = rw c.row.ensures.row (AreElements-row m.field m.row_count m.col_count c.loop-i.i m.rows c.row.ensures.matrix.grid) in
    let before : HasRows b.field b.row_count c.loop-i.i (picked_entry m.rows (pivots_of b.rows)) c.loop-i.entries.items = rw c.in_ok-pivots.ensures at c.loop-i.invariant in
    rw (c.in_ok-push_at.ensures, ps, c.in_ok-pivots.ensures)
    (HasRows-picked b.field b.row_count b.col_count b.rows c.field-field.ensures.matrix.grid c.requires.reduced.0 c.requires.reduced.1 c.loop-i.i m.rows c.row.result.now c.loop-i.entries.items c.row.ensures.row
    (rw c.requires.field at small) before)

pub from_entries-requires-clause-size : goal.from_entries-requires-clause-size
from_entries-requires-clause-size c =
    let b = c.args.basis.now in
    let m = c.args.matrix.now in
    let fits : m.row_count * b.col_count ≤ 67108864 = rw c.requires.width at c.rows-rows.ensures.matrix.fits in
    rw (c.rows-rows.ensures.count, c.rows-count.ensures.count) (coordinates_fit b.field b.row_count b.col_count b.rows c.field-field.ensures.matrix.grid c.requires.reduced.0 c.requires.reduced.1 m.row_count 67108864 fits)

pub returns-clause-matrix : goal.returns-clause-matrix
returns-clause-matrix c =
    let b = c.args.basis.now in
    let m = c.args.matrix.now in
    let fits : m.row_count * b.col_count ≤ 67108864 = rw c.requires.width at c.rows-rows.ensures.matrix.fits in
    rw (c.in_ok-coefficients.ensures, c.field-field.ensures.field, c.rows-rows.ensures.count, c.rows-count.ensures.count, c.deref-2.ensures.value)
    (IsMatrix-written b.field m.row_count b.row_count c.loop-i.entries.items c.loop-i.invariant.elements
    (coordinates_fit b.field b.row_count b.col_count b.rows c.field-field.ensures.matrix.grid c.requires.reduced.0 c.requires.reduced.1 m.row_count 67108864 fits))

pub returns-clause-coordinates : goal.returns-clause-coordinates
returns-clause-coordinates c =
    let b = c.args.basis.now in
    let m = c.args.matrix.now in
    let end : c.loop-i.i ≡ m.row_count = omega (arith, c.loop-i-test.false, c.loop-i.auto.i-end, c.rows-rows.ensures.count) in
    let all : HasRows b.field b.row_count m.row_count (picked_entry m.rows (pivots_of b.rows)) c.loop-i.entries.items = rw (c.in_ok-pivots.ensures, end) at c.loop-i.invariant in
    let grid : IsGrid b.field m.row_count b.col_count m.rows = rw (c.requires.field, c.requires.width) at c.rows-rows.ensures.matrix.grid in
    rw (c.in_ok-coefficients.ensures, c.rows-rows.ensures.count, c.rows-count.ensures.count, c.deref-2.ensures.value)
    (rows_coordinates b.field b.row_count b.col_count b.rows c.field-field.ensures.matrix.grid c.requires.reduced.0 c.requires.reduced.1 m.row_count m.rows c.loop-i.entries.items grid c.requires.inside all)
