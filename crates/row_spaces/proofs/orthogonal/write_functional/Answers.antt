use Rattle.std.proofs.Common.{◌≡◌, ◌<◌, ◌≤◌, length, take, ◌∙◌, arith}
use Rattle.std.proofs.lemmas.List.{length-take-le, length-set}
use Rattle.fp_linear.proofs.LentProducts.{pivot_at}
use Rattle.row_spaces.proofs.FunctionalRows.{IsFunctionalSoFar-none, IsFunctionalSoFar-more, IsFunctionalAt-told}
use Rattle.row_spaces.proofs.PushedRows.{AreElements-row}
use Rattle.row_spaces.proofs.orthogonal.write_functional.Goals as goal

pub loop-i-init : goal.loop-i-init
loop-i-init c = IsFunctionalSoFar-none _ _ _ _ _ (omega (arith, c.requires.width, c.requires.column_inside)) c.requires.zero

pub neg-requires : goal.neg-requires
neg-requires c =
    let m = c.args.matrix.now in
    rw (c.row.ensures.row, c.field-field.ensures.field) ((AreElements-row m.field m.row_count m.col_count c.loop-i.i m.rows c.row.ensures.matrix.grid).small c.args.column)

pub bounds-functional-pivots : goal.bounds-functional-pivots
bounds-functional-pivots c =
    let m = c.args.matrix.now in
    let r = length c.args.pivots.now in
    let fits : r ≤ length m.rows = omega (arith, c.requires.count, c.field-field.ensures.matrix.grid.count) in
    let inside : c.loop-i.i < length (take r m.rows) = omega (arith, length-take-le r m.rows fits, c.loop-i-test.true) in
    omega (arith, pivot_at (take r m.rows) c.args.pivots.now c.loop-i.i c.requires.pivots inside, c.requires.reduced.nonzero c.loop-i.i inside, c.loop-i.auto.functional, length-set c.args.functional.now c.args.column 1, c.requires.width)

pub loop-i-preserved : goal.loop-i-preserved
loop-i-preserved c =
    let m = c.args.matrix.now in
    let r = length c.args.pivots.now in
    let fits : r ≤ length m.rows = omega (arith, c.requires.count, c.field-field.ensures.matrix.grid.count) in
    let count : length (take r m.rows) ≡ r = length-take-le r m.rows fits in
    let inside : c.loop-i.i < length (take r m.rows) = omega (arith, count, c.loop-i-test.true) in
    IsFunctionalSoFar-more m.field m.col_count c.args.column c.loop-i.i _ c.neg.result r m.rows c.loop-i.functional c.requires.reduced fits c.loop-i-test.true (c.loop-i.auto.functional ∙ length-set c.args.functional.now c.args.column 1 ∙ c.requires.width)
    (pivot_at (take r m.rows) c.args.pivots.now c.loop-i.i c.requires.pivots inside)
    (rw (c.row.ensures.row, c.field-field.ensures.field) at c.neg.ensures)
    (λ i l e. c.requires.apart i (omega (arith, count, l)) (pivot_at (take r m.rows) c.args.pivots.now i c.requires.pivots l ∙ e)) c.loop-i.invariant

pub returns-clause-functional : goal.returns-clause-functional
returns-clause-functional c =
    let m = c.args.matrix.now in
    let r = length c.args.pivots.now in
    let fits : r ≤ length m.rows = omega (arith, c.requires.count, c.field-field.ensures.matrix.grid.count) in
    let end : c.loop-i.i ≡ r = omega (arith, c.loop-i-test.false, c.loop-i.auto.i-end) in
    IsFunctionalAt-told m.field m.col_count c.args.column r m.rows c.loop-i.functional fits (c.loop-i.auto.functional ∙ length-set c.args.functional.now c.args.column 1 ∙ c.requires.width) (rw end at c.loop-i.invariant)
