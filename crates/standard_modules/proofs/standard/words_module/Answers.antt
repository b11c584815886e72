use Rattle.std.proofs.Common.{◌≡◌, ◌∙◌, length, refl, sym, ap, arith}
use Rattle.std.proofs.lemmas.List.{take_at, length-replicate}
use Rattle.linear_algebra.specs.Rows.{list_of}
use Rattle.linear_algebra.proofs.Rows.{list_of-same}
use Rattle.quiver_paths.specs.Quiver.{vertex_count, arrow_count}
use Rattle.path_algebra.specs.declared.Header.{Header}
use Rattle.module_types.specs.Algebras.{algebra_at}
use Rattle.standard_modules.specs.StandardModules.{projective_rep, matrix_of_arrow}
use Rattle.standard_modules.proofs.Lists.{list_of-none, list_of-pushed}
use Rattle.standard_modules.proofs.Modules.{vertices_at, arrows_at, by_lists, projective_dims}
use Rattle.standard_modules.proofs.standard.words_module.Goals as goal

pub loop-arrow-init : goal.loop-arrow-init
loop-arrow-init c = record {
  matrices = λ t. c.new-matrices.ensures.items ∙ list_of-none (matrix_of_arrow (projective_rep c.args.table.now.header c.args.table.now.words t c.args.side c.args.v));
  product = ap length (c.in_ok-product.ensures.items_if_clones_equal (λ y h. h)) ∙ length-replicate _ 0 ∙ c.word_count.ensures;
}

pub loop-arrow-preserved : goal.loop-arrow-preserved
loop-arrow-preserved c = record {
  matrices = λ t.
      c.in_ok-push.ensures.items ∙ list_of-pushed c.loop-arrow.arrow (matrix_of_arrow (projective_rep c.args.table.now.header c.args.table.now.words t c.args.side c.args.v)) c.loop-arrow.matrices.items c.in_ok-matrix.matrix
      (c.loop-arrow.invariant.matrices t) (c.in_ok-matrix.ensures t);
  product =
      ap length (take_at c.arrow_matrix.new.product _ c.loop-arrow.product.len (omega (arith, c.deref_mut.ensures.len, c.arrow_matrix.auto.product)))
      ∙ c.arrow_matrix.auto.product ∙ ap length c.deref_mut.ensures.value ∙ c.loop-arrow.invariant.product;
}

pub returns-clause-module : goal.returns-clause-module
returns-clause-module c = λ t.
    let h = c.args.table.now.header in
    let X = projective_rep h c.args.table.now.words t c.args.side c.args.v in
    let same : arrow_count c.header-header.result.now.quiver ≡ arrow_count h.quiver = ap (λ (h : Header). arrow_count h.quiver) c.header-header.ensures.header in
    let arrows : c.loop-arrow.arrow ≡ (algebra_at c.args.side h).quiver.arrows = omega (arith, arrows_at c.args.side h, same, c.loop-arrow-test.false, c.loop-arrow.auto.arrow-end, c.len-arrow-end.ensures) in
    let dims : c.in_ok-dims.dims ≡ list_of (vertex_count h.quiver) X.dim = c.in_ok-dims.ensures ∙ list_of-same (vertex_count h.quiver) _ _ 0 (λ w l. sym (projective_dims h c.args.table.now.words t c.args.side c.args.v w)) in
    by_lists c.args.side X _ c.in_ok-dims.dims c.from_vec.result (vertex_count h.quiver) c.loop-arrow.arrow refl (sym (vertices_at c.args.side h)) arrows dims (c.from_vec.ensures ∙ c.loop-arrow.invariant.matrices t)
