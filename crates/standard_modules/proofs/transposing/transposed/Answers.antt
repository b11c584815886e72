use Rattle.std.proofs.Common.{◌≡◌, ◌<◌, ◌∙◌, length, refl, ap, arith}
use Rattle.std.proofs.lemmas.List.Elements.{same_from_all_zip}
use Rattle.linear_algebra.proofs.Rows.{length-list_of}
use Rattle.representations.specs.Dual.{dual}
use Rattle.module_types.specs.declared.Module.{Module}
use Rattle.module_types.specs.Algebras.{other_side}
use Rattle.standard_modules.specs.StandardModules.{matrix_of_arrow}
use Rattle.standard_modules.proofs.Lists.{list_of-none, list_of-pushed}
use Rattle.standard_modules.proofs.Modules.{by_lists, transposed_at}
use Rattle.standard_modules.proofs.transposing.transposed.Goals as goal

pub loop-arrow-init : goal.loop-arrow-init
loop-arrow-init c = λ q Q X side e. c.new-matrices.ensures.items ∙ list_of-none (matrix_of_arrow (dual X))

pub loop-arrow-preserved : goal.loop-arrow-preserved
loop-arrow-preserved c = λ q Q X side e.
    let count : length c.args.m.now.matrices ≡ Q.arrows = ap (λ (m : Module). length m.matrices) e ∙ length-list_of Q.arrows (matrix_of_arrow X) in
    let l : c.loop-arrow.arrow < Q.arrows = omega (arith, count, c.loop-arrow-test.true, c.len-arrow-end.ensures) in
    let is = transposed_at side X c.args.m.now e c.loop-arrow.arrow c.index.result.now c.in_ok-matrix.matrix l c.index.ensures c.in_ok-matrix.ensures in
    c.in_ok-push.ensures.items ∙ list_of-pushed c.loop-arrow.arrow (matrix_of_arrow (dual X)) c.loop-arrow.matrices.items c.in_ok-matrix.matrix (c.loop-arrow.invariant q Q X side e) is

pub returns : goal.returns
returns c = λ q Q X side e.
    let count : length c.args.m.now.matrices ≡ Q.arrows = ap (λ (m : Module). length m.matrices) e ∙ length-list_of Q.arrows (matrix_of_arrow X) in
    let arrows : c.loop-arrow.arrow ≡ Q.arrows = omega (arith, count, c.loop-arrow-test.false, c.loop-arrow.auto.arrow-end, c.len-arrow-end.ensures) in
    let same : c.in_ok-dims.dims ≡ c.args.m.now.dims = same_from_all_zip _ _ _ c.in_ok-dims.ensures.cases (λ x y e. e) in
    let at : c.other.result ≡ other_side side = c.other.ensures ∙ ap (λ (m : Module). other_side m.side) e in
    by_lists (other_side side) (dual X) _ c.in_ok-dims.dims c.from_vec.result Q.vertices c.loop-arrow.arrow (λ i. record { side = at i; dims = c.in_ok-dims.dims; matrices = c.from_vec.result }) refl arrows
    (same ∙ ap (λ (m : Module). m.dims) e) (c.from_vec.ensures ∙ c.loop-arrow.invariant q Q X side e)
