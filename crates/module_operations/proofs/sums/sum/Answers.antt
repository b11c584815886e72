use Rattle.std.proofs.Common.{◌≡◌, ◌++◌, ◌∷◌, [], ◌∙◌, ap, sym, arith, refl}
use Rattle.linear_algebra.specs.Rows.{list_of}
use Rattle.module_faults.proofs.DualLists.{list_of-more, list_of-none}
use Rattle.module_operations.proofs.SumLists.{sum_dim, sum_matrix, dims_add, dims_fit, small_blocks, blocks_are, sum_by_lists}
use Rattle.module_operations.proofs.sums.sum.Goals as goal

pub loop-v-init : goal.loop-v-init
loop-v-init c = λ q Q S. list_of-none (sum_dim q Q c.args.a.now c.args.b.now) c.new-dims.result.items c.new-dims.ensures.items

pub overflow_add-index : goal.overflow_add-index
overflow_add-index c =
    let S = c.requires.2 in
    let few = dims_fit c.requires.0 c.requires.1 c.args.a.now c.args.b.now S c.loop-v.v c.index.result.now c.index-in-loop-v.result.now (omega (arith, c.loop-v-test.true, c.len-v-end.ensures)) c.index.ensures c.index-in-loop-v.ensures in
    omega (arith, few)

pub loop-v-preserved : goal.loop-v-preserved
loop-v-preserved c = λ q Q S.
    let is = dims_add q Q c.args.a.now c.args.b.now S c.loop-v.v c.index.result.now c.index-in-loop-v.result.now (omega (arith, c.loop-v-test.true, c.len-v-end.ensures)) c.index.ensures c.index-in-loop-v.ensures in
    c.in_ok-push.ensures.items ∙ (λ i. c.loop-v.invariant q Q S i ++ is i ∷ []) ∙ sym (list_of-more c.loop-v.v (sum_dim q Q c.args.a.now c.args.b.now) 0)

pub loop-arrow-init : goal.loop-arrow-init
loop-arrow-init c = λ q Q S. list_of-none (sum_matrix q Q c.args.a.now c.args.b.now) c.new-matrices.result.items c.new-matrices.ensures.items

pub diagonal_blocks-requires-clause-small : goal.diagonal_blocks-requires-clause-small
diagonal_blocks-requires-clause-small c =
    small_blocks c.requires.0 c.requires.1 c.args.a.now c.args.b.now c.requires.2 c.loop-arrow.arrow (omega (arith, c.loop-arrow-test.true, c.len-arrow-end.ensures)) c.index-in-loop-arrow.result.now c.index-in-loop-arrow-2.result.now
    c.index-in-loop-arrow.ensures c.index-in-loop-arrow-2.ensures

pub loop-arrow-preserved : goal.loop-arrow-preserved
loop-arrow-preserved c = λ q Q S.
    let is = blocks_are q Q c.args.a.now c.args.b.now S c.loop-arrow.arrow (omega (arith, c.loop-arrow-test.true, c.len-arrow-end.ensures)) c.index-in-loop-arrow.result.now c.index-in-loop-arrow-2.result.now
    c.index-in-loop-arrow.ensures c.index-in-loop-arrow-2.ensures c.in_ok-matrix.matrix c.in_ok-matrix.ensures in
    c.in_ok-push-2.ensures.items ∙ (λ i. c.loop-arrow.invariant q Q S i ++ is i ∷ []) ∙ sym (list_of-more c.loop-arrow.arrow (sum_matrix q Q c.args.a.now c.args.b.now) c.in_ok-matrix.matrix)

pub returns : goal.returns
returns c = λ q Q S.
    let first : c.loop-v.v ≡ Q.vertices = omega (arith, c.loop-v-test.false, c.loop-v.auto.v-end, c.len-v-end.ensures, S.first.counted) in
    let second : c.loop-arrow.arrow ≡ Q.arrows = omega (arith, c.loop-arrow-test.false, c.loop-arrow.auto.arrow-end, c.len-arrow-end.ensures, S.first.matrices.counted) in
    sum_by_lists q Q c.args.a.now c.args.b.now S c.args.a.now.side c.from_vec.result c.from_vec-2.result refl
    (c.from_vec.ensures ∙ c.loop-v.invariant q Q S ∙ ap (λ k. list_of k (sum_dim q Q c.args.a.now c.args.b.now)) first)
    (c.from_vec-2.ensures ∙ c.loop-arrow.invariant q Q S ∙ ap (λ k. list_of k (sum_matrix q Q c.args.a.now c.args.b.now)) second)
