use Rattle.std.proofs.Common.{◌≡◌, ◌<◌, ◌≤◌, ◌*◌, get_or, ◌∙◌, arith}
use Rattle.std.proofs.lemmas.Grind.{get_or_default_zero}
use Rattle.linear_algebra.specs.Rows.{IsGrid}
use Rattle.row_spaces.specs.PushedRows.{HasRows, chosen_entry}
use Rattle.row_spaces.proofs.PlaceRows.{HasRows-chosen, rows_factor, chosen_fit}
use Rattle.row_spaces.proofs.ReducedForms.{IsMatrix-written}
use Rattle.row_spaces.proofs.factoring.factor_through.Goals as goal

pub loop-i-preserved : goal.loop-i-preserved
loop-i-preserved c =
    let p = c.args.projection.now in
    let m = c.args.matrix.now in
    let grid : IsGrid p.field m.row_count m.col_count m.rows = rw c.requires.field at c.cols-cols.ensures.matrix.grid in
    let inside : c.loop-i.i < p.col_count = omega (arith, c.loop-i-test.true, c.len-i-end.ensures, c.in_ok-places.ensures.count) in
    let is : c.index.result.now ≡ get_or c.in_ok-places.places.items c.loop-i.i 0 = c.index.ensures ∙ get_or_default_zero c.in_ok-places.places.items c.loop-i.i _ (omega (arith, inside, c.in_ok-places.ensures.count)) in
    rw (c.in_ok-extend_from_slice.ensures.items, c.row.ensures.row)
    (HasRows-chosen p.field m.row_count m.col_count c.loop-i.i c.index.result.now m.rows c.in_ok-places.places.items c.loop-i.entries.items grid is (omega (arith, is, c.in_ok-places.ensures.places.inside c.loop-i.i inside, c.requires.shape)) c.loop-i.invariant)

pub from_entries-requires-clause-size : goal.from_entries-requires-clause-size
from_entries-requires-clause-size c =
    let p = c.args.projection.now in
    let m = c.args.matrix.now in
    let fits : p.row_count * m.col_count ≤ 67108864 = rw c.requires.shape at c.cols-cols.ensures.matrix.fits in
    rw (c.cols-rows.ensures.count, c.cols-cols.ensures.count) (chosen_fit _ c.requires.coreduced.0 c.requires.coreduced.1 m.col_count 67108864 fits)

pub returns-clause-matrix : goal.returns-clause-matrix
returns-clause-matrix c =
    let p = c.args.projection.now in
    let m = c.args.matrix.now in
    let fits : p.row_count * m.col_count ≤ 67108864 = rw c.requires.shape at c.cols-cols.ensures.matrix.fits in
    rw (c.in_ok-factor.ensures, c.field-field.ensures.field, c.cols-rows.ensures.count, c.cols-cols.ensures.count, c.deref.ensures.value)
    (IsMatrix-written p.field p.col_count m.col_count c.loop-i.entries.items c.loop-i.invariant.elements (chosen_fit _ c.requires.coreduced.0 c.requires.coreduced.1 m.col_count 67108864 fits))

pub returns-clause-factor : goal.returns-clause-factor
returns-clause-factor c =
    let p = c.args.projection.now in
    let m = c.args.matrix.now in
    let end : c.loop-i.i ≡ p.col_count = omega (arith, c.loop-i-test.false, c.loop-i.auto.i-end, c.len-i-end.ensures, c.in_ok-places.ensures.count) in
    let all : HasRows p.field m.col_count p.col_count (chosen_entry m.rows c.in_ok-places.places.items) c.loop-i.entries.items = rw end at c.loop-i.invariant in
    let grid : IsGrid p.field p.row_count m.col_count m.rows = rw (c.requires.field, c.requires.shape) at c.cols-cols.ensures.matrix.grid in
    rw (c.in_ok-factor.ensures, c.cols-rows.ensures.count, c.cols-cols.ensures.count, c.deref.ensures.value)
    (rows_factor p.field p.row_count p.col_count m.col_count _ m.rows c.in_ok-places.places.items c.loop-i.entries.items c.in_ok-places.ensures.places grid c.requires.vanishes all)
