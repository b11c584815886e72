use Rattle.std.proofs.Common.{◌≡◌, ◌<◌, ◌++◌, ◌∷◌, [], ◌∙◌, ap, sym, arith}
use Rattle.std.proofs.lemmas.List.Elements.{same_from_all_zip}
use Rattle.linear_algebra.specs.Rows.{list_of}
use Rattle.module_types.specs.Algebras.{algebra_at}
use Rattle.module_checks.proofs.Sides.{arrows_at}
use Rattle.module_faults.proofs.DualLists.{dual_matrix_of, list_of-more, list_of-none, transposed_at, dual_by_lists}
use Rattle.module_faults.proofs.duals.dual_module.Goals as goal

pub loop-k-init : goal.loop-k-init
loop-k-init c = list_of-none (dual_matrix_of c.args.header.now.field (algebra_at c.args.m.now.side c.args.header.now).quiver c.args.m.now) c.in_ok-matrices.matrices.items c.in_ok-matrices.ensures.items

pub loop-k-preserved : goal.loop-k-preserved
loop-k-preserved c =
    let h = c.args.header.now in
    let Q = (algebra_at c.args.m.now.side h).quiver in
    let arrows = arrows_at c.args.m.now.side h in
    let inside : c.loop-k.k < Q.arrows = omega (arith, c.loop-k-test.true, c.len-k-end.ensures) in
    let is = transposed_at h.field Q c.args.m.now c.requires c.loop-k.k c.index.result.now c.in_ok-matrix.matrix inside c.index.ensures c.in_ok-matrix.ensures in
    c.in_ok-push.ensures.items ∙ (λ i. c.loop-k.invariant i ++ is i ∷ []) ∙ sym (list_of-more c.loop-k.k (dual_matrix_of h.field Q c.args.m.now) c.in_ok-matrix.matrix)

pub returns : goal.returns
returns c =
    let h = c.args.header.now in
    let Q = (algebra_at c.args.m.now.side h).quiver in
    let arrows = arrows_at c.args.m.now.side h in
    let count : c.loop-k.k ≡ Q.arrows = omega (arith, c.loop-k-test.false, c.loop-k.auto.k-end, c.len-k-end.ensures) in
    let same : c.in_ok-dims.dims ≡ c.args.m.now.dims = same_from_all_zip _ _ _ c.in_ok-dims.ensures.cases (λ x y e. e) in
    dual_by_lists h.field Q c.args.m.now c.requires c.other.result c.in_ok-dims.dims c.from_vec.result c.other.ensures same
    (c.from_vec.ensures ∙ c.loop-k.invariant ∙ ap (λ k. list_of k (dual_matrix_of h.field Q c.args.m.now)) count)
