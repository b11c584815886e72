use Rattle.module_operations.proofs.ArrowMatrices.{source_below, target_below, arrow_matrix, source_projection, target_projection, is_vanishing, in_projections, few_dim, few_quotient}
use Rattle.module_operations.proofs.Inductions.{onto_field, onto_rows, onto_size, source_coreduced, along_field, along_rows, along_vanishes, factor_shape, factor_composes}
use Rattle.module_operations.proofs.quotient_modules.induced.Goals as goal

pub index-source-requires : goal.index-source-requires
index-source-requires c =
    rw c.source_at.ensures
    (in_projections c.args.header.now c.args.a.now c.requires.allowed c.requires.shape c.args.arrow c.requires.arrow c.args.projections.now c.requires.quotients _
    (source_below c.args.header.now c.args.a.now c.requires.allowed c.requires.shape c.args.arrow c.requires.arrow))

pub index-target-requires : goal.index-target-requires
index-target-requires c =
    rw c.target_at.ensures
    (in_projections c.args.header.now c.args.a.now c.requires.allowed c.requires.shape c.args.arrow c.requires.arrow c.args.projections.now c.requires.quotients _
    (target_below c.args.header.now c.args.a.now c.requires.allowed c.requires.shape c.args.arrow c.requires.arrow))

pub mul-requires-clause-field : goal.mul-requires-clause-field
mul-requires-clause-field c =
    let h = c.args.header.now in
    let a = c.args.a.now in
    let p = c.args.projections.now in
    let r = c.args.arrow in
    let es = source_projection h a c.requires.allowed c.requires.shape r c.requires.arrow p c.requires.quotients c.source_at.result c.index-source.result.now c.source_at.ensures c.index-source.ensures in
    let em = arrow_matrix h a c.requires.allowed c.requires.shape r c.requires.arrow c.index.result.now c.index.ensures in
    let et = target_projection h a c.requires.allowed c.requires.shape r c.requires.arrow p c.requires.quotients c.target_at.result c.index-target.result.now c.target_at.ensures c.index-target.ensures in
    let i = is_vanishing h a c.requires.allowed c.requires.shape r c.requires.arrow p c.requires.quotients c.target_at.result c.index-target.result.now c.index.result.now c.target_at.ensures c.index-target.ensures c.index.ensures in
    onto_field _ _ _ _ _ _ _ _ i _ _ _ es em et

pub mul-requires-clause-shape : goal.mul-requires-clause-shape
mul-requires-clause-shape c =
    let h = c.args.header.now in
    let a = c.args.a.now in
    let p = c.args.projections.now in
    let r = c.args.arrow in
    let es = source_projection h a c.requires.allowed c.requires.shape r c.requires.arrow p c.requires.quotients c.source_at.result c.index-source.result.now c.source_at.ensures c.index-source.ensures in
    let em = arrow_matrix h a c.requires.allowed c.requires.shape r c.requires.arrow c.index.result.now c.index.ensures in
    let et = target_projection h a c.requires.allowed c.requires.shape r c.requires.arrow p c.requires.quotients c.target_at.result c.index-target.result.now c.target_at.ensures c.index-target.ensures in
    let i = is_vanishing h a c.requires.allowed c.requires.shape r c.requires.arrow p c.requires.quotients c.target_at.result c.index-target.result.now c.index.result.now c.target_at.ensures c.index-target.ensures c.index.ensures in
    onto_rows _ _ _ _ _ _ _ _ i _ _ _ es em et

pub mul-requires-clause-size : goal.mul-requires-clause-size
mul-requires-clause-size c =
    let h = c.args.header.now in
    let a = c.args.a.now in
    let p = c.args.projections.now in
    let r = c.args.arrow in
    let es = source_projection h a c.requires.allowed c.requires.shape r c.requires.arrow p c.requires.quotients c.source_at.result c.index-source.result.now c.source_at.ensures c.index-source.ensures in
    let em = arrow_matrix h a c.requires.allowed c.requires.shape r c.requires.arrow c.index.result.now c.index.ensures in
    let et = target_projection h a c.requires.allowed c.requires.shape r c.requires.arrow p c.requires.quotients c.target_at.result c.index-target.result.now c.target_at.ensures c.index-target.ensures in
    let i = is_vanishing h a c.requires.allowed c.requires.shape r c.requires.arrow p c.requires.quotients c.target_at.result c.index-target.result.now c.index.result.now c.target_at.ensures c.index-target.ensures c.index.ensures in
    onto_size _ _ _ _ _ _ _ _ i _ _ _ es em et (few_dim h a c.requires.allowed c.requires.shape r c.requires.arrow _) (few_quotient h a c.requires.allowed c.requires.shape r c.requires.arrow p c.requires.quotients _ (target_below h a c.requires.allowed c.requires.shape r c.requires.arrow))

pub factor_through-requires-clause-field : goal.factor_through-requires-clause-field
factor_through-requires-clause-field c =
    let h = c.args.header.now in
    let a = c.args.a.now in
    let p = c.args.projections.now in
    let r = c.args.arrow in
    let es = source_projection h a c.requires.allowed c.requires.shape r c.requires.arrow p c.requires.quotients c.source_at.result c.index-source.result.now c.source_at.ensures c.index-source.ensures in
    let em = arrow_matrix h a c.requires.allowed c.requires.shape r c.requires.arrow c.index.result.now c.index.ensures in
    let et = target_projection h a c.requires.allowed c.requires.shape r c.requires.arrow p c.requires.quotients c.target_at.result c.index-target.result.now c.target_at.ensures c.index-target.ensures in
    let i = is_vanishing h a c.requires.allowed c.requires.shape r c.requires.arrow p c.requires.quotients c.target_at.result c.index-target.result.now c.index.result.now c.target_at.ensures c.index-target.ensures c.index.ensures in
    along_field _ _ _ _ _ _ _ _ i _ _ _ es em et c.in_ok-along.along c.in_ok-along.ensures

pub factor_through-requires-clause-shape : goal.factor_through-requires-clause-shape
factor_through-requires-clause-shape c =
    let h = c.args.header.now in
    let a = c.args.a.now in
    let p = c.args.projections.now in
    let r = c.args.arrow in
    let es = source_projection h a c.requires.allowed c.requires.shape r c.requires.arrow p c.requires.quotients c.source_at.result c.index-source.result.now c.source_at.ensures c.index-source.ensures in
    let em = arrow_matrix h a c.requires.allowed c.requires.shape r c.requires.arrow c.index.result.now c.index.ensures in
    let et = target_projection h a c.requires.allowed c.requires.shape r c.requires.arrow p c.requires.quotients c.target_at.result c.index-target.result.now c.target_at.ensures c.index-target.ensures in
    let i = is_vanishing h a c.requires.allowed c.requires.shape r c.requires.arrow p c.requires.quotients c.target_at.result c.index-target.result.now c.index.result.now c.target_at.ensures c.index-target.ensures c.index.ensures in
    along_rows _ _ _ _ _ _ _ _ i _ _ _ es em et c.in_ok-along.along c.in_ok-along.ensures

pub factor_through-requires-clause-coreduced : goal.factor_through-requires-clause-coreduced
factor_through-requires-clause-coreduced c =
    let h = c.args.header.now in
    let a = c.args.a.now in
    let p = c.args.projections.now in
    let r = c.args.arrow in
    let es = source_projection h a c.requires.allowed c.requires.shape r c.requires.arrow p c.requires.quotients c.source_at.result c.index-source.result.now c.source_at.ensures c.index-source.ensures in
    let em = arrow_matrix h a c.requires.allowed c.requires.shape r c.requires.arrow c.index.result.now c.index.ensures in
    let et = target_projection h a c.requires.allowed c.requires.shape r c.requires.arrow p c.requires.quotients c.target_at.result c.index-target.result.now c.target_at.ensures c.index-target.ensures in
    let i = is_vanishing h a c.requires.allowed c.requires.shape r c.requires.arrow p c.requires.quotients c.target_at.result c.index-target.result.now c.index.result.now c.target_at.ensures c.index-target.ensures c.index.ensures in
    source_coreduced _ _ _ _ _ _ _ _ i _ _ _ es em et

pub factor_through-requires-clause-vanishes : goal.factor_through-requires-clause-vanishes
factor_through-requires-clause-vanishes c =
    let h = c.args.header.now in
    let a = c.args.a.now in
    let p = c.args.projections.now in
    let r = c.args.arrow in
    let es = source_projection h a c.requires.allowed c.requires.shape r c.requires.arrow p c.requires.quotients c.source_at.result c.index-source.result.now c.source_at.ensures c.index-source.ensures in
    let em = arrow_matrix h a c.requires.allowed c.requires.shape r c.requires.arrow c.index.result.now c.index.ensures in
    let et = target_projection h a c.requires.allowed c.requires.shape r c.requires.arrow p c.requires.quotients c.target_at.result c.index-target.result.now c.target_at.ensures c.index-target.ensures in
    let i = is_vanishing h a c.requires.allowed c.requires.shape r c.requires.arrow p c.requires.quotients c.target_at.result c.index-target.result.now c.index.result.now c.target_at.ensures c.index-target.ensures c.index.ensures in
    along_vanishes _ _ _ _ _ _ _ _ i _ _ _ es em et c.in_ok-along.along c.in_ok-along.ensures

pub returns : goal.returns
returns c =
    let h = c.args.header.now in
    let a = c.args.a.now in
    let p = c.args.projections.now in
    let r = c.args.arrow in
    let es = source_projection h a c.requires.allowed c.requires.shape r c.requires.arrow p c.requires.quotients c.source_at.result c.index-source.result.now c.source_at.ensures c.index-source.ensures in
    let em = arrow_matrix h a c.requires.allowed c.requires.shape r c.requires.arrow c.index.result.now c.index.ensures in
    let et = target_projection h a c.requires.allowed c.requires.shape r c.requires.arrow p c.requires.quotients c.target_at.result c.index-target.result.now c.target_at.ensures c.index-target.ensures in
    let i = is_vanishing h a c.requires.allowed c.requires.shape r c.requires.arrow p c.requires.quotients c.target_at.result c.index-target.result.now c.index.result.now c.target_at.ensures c.index-target.ensures c.index.ensures in
    record {
      shape = factor_shape _ _ _ _ _ _ _ _ i _ _ _ es em et c.in_ok-along.along c.in_ok-along.ensures c.in_ok-matrix.matrix c.in_ok-matrix.ensures.shape c.in_ok-matrix.ensures.matrix c.in_ok-matrix.ensures.factor;
      commutes = factor_composes _ _ _ _ _ _ _ _ i _ _ _ es em et c.in_ok-along.along c.in_ok-along.ensures c.in_ok-matrix.matrix c.in_ok-matrix.ensures.shape c.in_ok-matrix.ensures.matrix c.in_ok-matrix.ensures.factor;
    }
