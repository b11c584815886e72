use Rattle.std.proofs.Common.{◌≡◌, ◌∙◌, refl, sym, ap, subst, arith}
use Rattle.linear_algebra.specs.Rows.{list_of}
use Rattle.quiver_paths.specs.Quiver.{vertex_count, arrow_count}
use Rattle.path_algebra.specs.declared.Header.{Header}
use Rattle.module_types.specs.Algebras.{algebra_at}
use Rattle.module_types.specs.Readings.{IsModuleOver}
use Rattle.module_types.specs.SimpleModules.{simple, dim_of_simple}
use Rattle.module_types.proofs.SimpleModules.{simple_over}
use Rattle.standard_modules.specs.StandardModules.{matrix_of_arrow}
use Rattle.standard_modules.proofs.Lists.{list_of-none, list_of-pushed}
use Rattle.standard_modules.proofs.Modules.{vertices_at, arrows_at, by_lists}
use Rattle.standard_modules.proofs.SimpleLists.{simple_written, simple_shape}
use Rattle.standard_modules.proofs.simples.simple_module.Goals as goal

pub loop-arrow-init : goal.loop-arrow-init
loop-arrow-init c =
    let h = c.args.table.now.header in
    let Q = (algebra_at c.args.side h).quiver in
    let X = simple h.field Q c.args.v in
    c.new-matrices.ensures.items ∙ list_of-none (matrix_of_arrow X)

pub loop-arrow-preserved : goal.loop-arrow-preserved
loop-arrow-preserved c =
    let h = c.args.table.now.header in
    let Q = (algebra_at c.args.side h).quiver in
    let X = simple h.field Q c.args.v in
    let is : c.in_ok-matrix.matrix ≡ matrix_of_arrow X c.loop-arrow.arrow = subst (λ (k : Header). c.in_ok-matrix.matrix ≡ matrix_of_arrow (simple k.field (algebra_at c.args.side k).quiver c.args.v) c.loop-arrow.arrow) c.header-header.ensures.header c.in_ok-matrix.ensures in
    c.in_ok-push.ensures.items ∙ list_of-pushed c.loop-arrow.arrow (matrix_of_arrow X) c.loop-arrow.matrices.items c.in_ok-matrix.matrix c.loop-arrow.invariant is

pub returns-clause-module : goal.returns-clause-module
returns-clause-module c =
    let h = c.args.table.now.header in
    let Q = (algebra_at c.args.side h).quiver in
    let X = simple h.field Q c.args.v in
    let same : arrow_count c.header-header.result.now.quiver ≡ arrow_count h.quiver = ap (λ (h : Header). arrow_count h.quiver) c.header-header.ensures.header in
    let arrows : c.loop-arrow.arrow ≡ Q.arrows = omega (arith, arrows_at c.args.side h, same, c.loop-arrow-test.false, c.loop-arrow.auto.arrow-end, c.len-arrow-end.ensures) in
    let dims : c.in_ok-dims.dims ≡ list_of (vertex_count h.quiver) (dim_of_simple Q c.args.v) = subst (λ (k : Header). c.in_ok-dims.dims ≡ list_of (vertex_count k.quiver) (dim_of_simple (algebra_at c.args.side k).quiver c.args.v)) c.header-header.ensures.header c.in_ok-dims.ensures in
    let is = by_lists c.args.side X _ c.in_ok-dims.dims c.from_vec.result (vertex_count h.quiver) c.loop-arrow.arrow refl (sym (vertices_at c.args.side h)) arrows dims (c.from_vec.ensures ∙ c.loop-arrow.invariant) in
    let at = simple_written h.field Q c.args.side c.args.v _ is in
    at

pub returns-clause-shape : goal.returns-clause-shape
returns-clause-shape c =
    let h = c.args.table.now.header in
    let Q = (algebra_at c.args.side h).quiver in
    let X = simple h.field Q c.args.v in
    let same : arrow_count c.header-header.result.now.quiver ≡ arrow_count h.quiver = ap (λ (h : Header). arrow_count h.quiver) c.header-header.ensures.header in
    let arrows : c.loop-arrow.arrow ≡ Q.arrows = omega (arith, arrows_at c.args.side h, same, c.loop-arrow-test.false, c.loop-arrow.auto.arrow-end, c.len-arrow-end.ensures) in
    let dims : c.in_ok-dims.dims ≡ list_of (vertex_count h.quiver) (dim_of_simple Q c.args.v) = subst (λ (k : Header). c.in_ok-dims.dims ≡ list_of (vertex_count k.quiver) (dim_of_simple (algebra_at c.args.side k).quiver c.args.v)) c.header-header.ensures.header c.in_ok-dims.ensures in
    let is = by_lists c.args.side X _ c.in_ok-dims.dims c.from_vec.result (vertex_count h.quiver) c.loop-arrow.arrow refl (sym (vertices_at c.args.side h)) arrows dims (c.from_vec.ensures ∙ c.loop-arrow.invariant) in
    let at = simple_written h.field Q c.args.side c.args.v _ is in
    simple_shape h c.args.side c.args.v _ at

pub returns-clause-over : goal.returns-clause-over
returns-clause-over c =
    let h = c.args.table.now.header in
    let Q = (algebra_at c.args.side h).quiver in
    let X = simple h.field Q c.args.v in
    let same : arrow_count c.header-header.result.now.quiver ≡ arrow_count h.quiver = ap (λ (h : Header). arrow_count h.quiver) c.header-header.ensures.header in
    let arrows : c.loop-arrow.arrow ≡ Q.arrows = omega (arith, arrows_at c.args.side h, same, c.loop-arrow-test.false, c.loop-arrow.auto.arrow-end, c.len-arrow-end.ensures) in
    let dims : c.in_ok-dims.dims ≡ list_of (vertex_count h.quiver) (dim_of_simple Q c.args.v) = subst (λ (k : Header). c.in_ok-dims.dims ≡ list_of (vertex_count k.quiver) (dim_of_simple (algebra_at c.args.side k).quiver c.args.v)) c.header-header.ensures.header c.in_ok-dims.ensures in
    let is = by_lists c.args.side X _ c.in_ok-dims.dims c.from_vec.result (vertex_count h.quiver) c.loop-arrow.arrow refl (sym (vertices_at c.args.side h)) arrows dims (c.from_vec.ensures ∙ c.loop-arrow.invariant) in
    let at = simple_written h.field Q c.args.side c.args.v _ is in
    subst (IsModuleOver h) (sym at) (simple_over h c.header-header.ensures.table.allowed c.args.side c.args.v)
