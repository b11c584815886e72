use Rattle.std.proofs.Common.{◌≡◌, ◌<◌, ◌++◌, ◌∷◌, [], ◌∙◌, ap, sym, arith}
use Rattle.std.proofs.lemmas.List.Elements.{same_from_all_zip}
use Rattle.linear_algebra.specs.Rows.{list_of}
use Rattle.module_faults.proofs.DualLists.{dual_matrix_of, list_of-more, list_of-none, transposed_at, dual_by_lists}
use Rattle.module_operations.proofs.duals.dual.Goals as goal

pub loop-arrow-init : goal.loop-arrow-init
loop-arrow-init c = λ q Q M. list_of-none (dual_matrix_of q Q c.args.m.now) c.new-matrices.result.items c.new-matrices.ensures.items

pub loop-arrow-preserved : goal.loop-arrow-preserved
loop-arrow-preserved c = λ q Q M.
    let inside : c.loop-arrow.arrow < Q.arrows = omega (arith, c.loop-arrow-test.true, c.len-arrow-end.ensures, M.matrices.counted) in
    let is = transposed_at q Q c.args.m.now M c.loop-arrow.arrow c.index.result.now c.in_ok-matrix.matrix inside c.index.ensures c.in_ok-matrix.ensures in
    c.in_ok-push.ensures.items ∙ (λ i. c.loop-arrow.invariant q Q M i ++ is i ∷ []) ∙ sym (list_of-more c.loop-arrow.arrow (dual_matrix_of q Q c.args.m.now) c.in_ok-matrix.matrix)

pub returns : goal.returns
returns c = λ q Q M.
    let count : c.loop-arrow.arrow ≡ Q.arrows = omega (arith, c.loop-arrow-test.false, c.loop-arrow.auto.arrow-end, c.len-arrow-end.ensures, M.matrices.counted) in
    let same : c.in_ok-dims.dims ≡ c.args.m.now.dims = same_from_all_zip _ _ _ c.in_ok-dims.ensures.cases (λ x y e. e) in
    dual_by_lists q Q c.args.m.now M c.other.result c.in_ok-dims.dims c.from_vec.result c.other.ensures same
    (c.from_vec.ensures ∙ c.loop-arrow.invariant q Q M ∙ ap (λ k. list_of k (dual_matrix_of q Q c.args.m.now)) count)
