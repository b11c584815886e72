use Rattle.std.proofs.Common.{◌≡◌, ◌<◌, length, sym, ap, ◌∙◌, arith}
use Rattle.std.proofs.lemmas.List.{length-set}
use Rattle.linear_algebra.specs.Field.{neg}
use Rattle.linear_algebra.specs.Rows.{rows_of}
use Rattle.linear_algebra.proofs.Rows.{length-rows_of, entry-rows_of}
use Rattle.fp_linear.proofs.LentProducts.{pivot_at}
use Rattle.fp_linear.proofs.SeparateOf.{IsFunctionalUpTo-more, IsFunctionalAt-whole}
use Rattle.fp_linear.proofs.separate.write_functional.Goals as goal

pub bounds-functional-pivots : goal.bounds-functional-pivots
bounds-functional-pivots c =
    let form = rows_of (length c.args.pivots.now) (length c.args.functional.now) c.args.rows.now in
    let inside : c.loop-i.i < length form = omega (arith, length-rows_of (length c.args.pivots.now) (length c.args.functional.now) c.args.rows.now, c.loop-i-test.true) in
    omega (arith, pivot_at form c.args.pivots.now c.loop-i.i c.requires.pivots inside, c.requires.reduced.nonzero c.loop-i.i inside, c.loop-i.auto.functional, length-set c.args.functional.now c.args.column 1)

pub loop-i-preserved : goal.loop-i-preserved
loop-i-preserved c =
    let m = length c.args.pivots.now in
    let n = length c.args.functional.now in
    let form = rows_of m n c.args.rows.now in
    let count = length-rows_of m n c.args.rows.now in
    let inside : c.loop-i.i < length form = omega (arith, count, c.loop-i-test.true) in
    IsFunctionalUpTo-more c.args.field n c.args.column c.loop-i.i _ c.neg.result form c.loop-i.functional c.requires.reduced inside (c.loop-i.auto.functional ∙ length-set c.args.functional.now c.args.column 1)
    (pivot_at form c.args.pivots.now c.loop-i.i c.requires.pivots inside)
    (c.neg.ensures ∙ ap (neg c.args.field) (sym (entry-rows_of m n c.args.rows.now c.loop-i.i c.args.column c.loop-i-test.true c.requires.column_inside)))
    (λ i l e. c.requires.apart i (omega (arith, count, l)) (pivot_at form c.args.pivots.now i c.requires.pivots l ∙ e)) c.loop-i.invariant

pub returns : goal.returns
returns c =
    let m = length c.args.pivots.now in
    let n = length c.args.functional.now in
    let end : c.loop-i.i ≡ m = omega (arith, c.loop-i-test.false, c.loop-i.auto.i-end) in
    IsFunctionalAt-whole c.args.field n c.args.column m (rows_of m n c.args.rows.now) c.loop-i.functional (length-rows_of m n c.args.rows.now) (c.loop-i.auto.functional ∙ length-set c.args.functional.now c.args.column 1) (rw end at c.loop-i.invariant)
