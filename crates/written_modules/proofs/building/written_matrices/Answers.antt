use Rattle.std.proofs.Common.{◌++◌, ◌∷◌, [], ◌∙◌, sym, arith}
use Rattle.module_faults.proofs.DualLists.{list_of-more, list_of-none}
use Rattle.written_modules.proofs.WrittenShapes.{matrix_named, named_is, fit_here, size_here}
use Rattle.written_modules.proofs.building.written_matrices.Goals as goal

pub loop-i-init : goal.loop-i-init
loop-i-init c = list_of-none (matrix_named c.args.field c.args.names.now c.args.rows.now c.args.cols.now c.args.lines.now) c.in_ok-matrices.matrices.items c.in_ok-matrices.ensures.items

pub matrix_at-requires-clause-fit : goal.matrix_at-requires-clause-fit
matrix_at-requires-clause-fit c =
    fit_here c.args.names.now c.args.rows.now c.args.cols.now c.args.lines.now c.loop-i.i c.index.result.now c.index-in-loop-i.result.now c.index-in-loop-i-2.result.now (omega (arith, c.loop-i-test.true, c.len-i-end.ensures)) c.requires.rows c.requires.cols
    c.index.ensures c.index-in-loop-i.ensures c.index-in-loop-i-2.ensures c.requires.fit

pub matrix_at-requires-clause-size : goal.matrix_at-requires-clause-size
matrix_at-requires-clause-size c =
    size_here c.args.rows.now c.args.cols.now c.loop-i.i c.index.result.now c.index-in-loop-i.result.now c.requires.row_counts c.requires.col_counts
    (omega (arith, c.loop-i-test.true, c.len-i-end.ensures, c.requires.rows)) (omega (arith, c.loop-i-test.true, c.len-i-end.ensures, c.requires.cols)) c.index.ensures c.index-in-loop-i.ensures

pub loop-i-preserved : goal.loop-i-preserved
loop-i-preserved c =
    let is = named_is c.args.field c.args.names.now c.args.rows.now c.args.cols.now c.args.lines.now c.loop-i.i c.index.result.now c.index-in-loop-i.result.now c.index-in-loop-i-2.result.now c.in_ok-matrix.matrix
    (omega (arith, c.loop-i-test.true, c.len-i-end.ensures)) c.requires.rows c.requires.cols c.index.ensures c.index-in-loop-i.ensures c.index-in-loop-i-2.ensures c.in_ok-matrix.ensures in
    c.in_ok-push.ensures.items ∙ (λ i. c.loop-i.invariant i ++ is i ∷ []) ∙ sym (list_of-more c.loop-i.i (matrix_named c.args.field c.args.names.now c.args.rows.now c.args.cols.now c.args.lines.now) c.in_ok-matrix.matrix)
