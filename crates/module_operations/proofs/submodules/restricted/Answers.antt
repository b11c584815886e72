use Rattle.module_operations.proofs.ArrowMatrices.{source_below, target_below, arrow_matrix, source_basis, target_basis, is_inside, in_bases, few_dim, few_space}
use Rattle.module_operations.proofs.Restrictions.{matrix_field, matrix_rows, product_size, target_reduced, along_field, along_width, along_inside, result_shape, result_combines}
use Rattle.module_operations.proofs.submodules.restricted.Goals as goal

pub index-source-requires : goal.index-source-requires
index-source-requires c =
    rw c.source_at.ensures
    (in_bases c.args.header.now c.args.a.now c.requires.allowed c.requires.shape c.args.arrow c.requires.arrow c.args.bases.now c.requires.spaces _
    (source_below c.args.header.now c.args.a.now c.requires.allowed c.requires.shape c.args.arrow c.requires.arrow))

pub index-target-requires : goal.index-target-requires
index-target-requires c =
    rw c.target_at.ensures
    (in_bases c.args.header.now c.args.a.now c.requires.allowed c.requires.shape c.args.arrow c.requires.arrow c.args.bases.now c.requires.spaces _
    (target_below c.args.header.now c.args.a.now c.requires.allowed c.requires.shape c.args.arrow c.requires.arrow))

pub mul-requires-clause-field : goal.mul-requires-clause-field
mul-requires-clause-field c =
    let h = c.args.header.now in
    let a = c.args.a.now in
    let b = c.args.bases.now in
    let r = c.args.arrow in
    let es = source_basis h a c.requires.allowed c.requires.shape r c.requires.arrow b c.requires.spaces c.source_at.result c.index-source.result.now c.source_at.ensures c.index-source.ensures in
    let em = arrow_matrix h a c.requires.allowed c.requires.shape r c.requires.arrow c.index.result.now c.index.ensures in
    let et = target_basis h a c.requires.allowed c.requires.shape r c.requires.arrow b c.requires.spaces c.target_at.result c.index-target.result.now c.target_at.ensures c.index-target.ensures in
    let i = is_inside h a c.requires.allowed c.requires.shape r c.requires.arrow b c.requires.spaces c.source_at.result c.index-source.result.now c.index.result.now c.source_at.ensures c.index-source.ensures c.index.ensures in
    matrix_field _ _ _ _ _ _ _ _ i _ _ _ es em et

pub mul-requires-clause-shape : goal.mul-requires-clause-shape
mul-requires-clause-shape c =
    let h = c.args.header.now in
    let a = c.args.a.now in
    let b = c.args.bases.now in
    let r = c.args.arrow in
    let es = source_basis h a c.requires.allowed c.requires.shape r c.requires.arrow b c.requires.spaces c.source_at.result c.index-source.result.now c.source_at.ensures c.index-source.ensures in
    let em = arrow_matrix h a c.requires.allowed c.requires.shape r c.requires.arrow c.index.result.now c.index.ensures in
    let et = target_basis h a c.requires.allowed c.requires.shape r c.requires.arrow b c.requires.spaces c.target_at.result c.index-target.result.now c.target_at.ensures c.index-target.ensures in
    let i = is_inside h a c.requires.allowed c.requires.shape r c.requires.arrow b c.requires.spaces c.source_at.result c.index-source.result.now c.index.result.now c.source_at.ensures c.index-source.ensures c.index.ensures in
    matrix_rows _ _ _ _ _ _ _ _ i _ _ _ es em et

pub mul-requires-clause-size : goal.mul-requires-clause-size
mul-requires-clause-size c =
    let h = c.args.header.now in
    let a = c.args.a.now in
    let b = c.args.bases.now in
    let r = c.args.arrow in
    let es = source_basis h a c.requires.allowed c.requires.shape r c.requires.arrow b c.requires.spaces c.source_at.result c.index-source.result.now c.source_at.ensures c.index-source.ensures in
    let em = arrow_matrix h a c.requires.allowed c.requires.shape r c.requires.arrow c.index.result.now c.index.ensures in
    let et = target_basis h a c.requires.allowed c.requires.shape r c.requires.arrow b c.requires.spaces c.target_at.result c.index-target.result.now c.target_at.ensures c.index-target.ensures in
    let i = is_inside h a c.requires.allowed c.requires.shape r c.requires.arrow b c.requires.spaces c.source_at.result c.index-source.result.now c.index.result.now c.source_at.ensures c.index-source.ensures c.index.ensures in
    product_size _ _ _ _ _ _ _ _ i _ _ _ es em et (few_space h a c.requires.allowed c.requires.shape r c.requires.arrow b c.requires.spaces _ (source_below h a c.requires.allowed c.requires.shape r c.requires.arrow)) (few_dim h a c.requires.allowed c.requires.shape r c.requires.arrow _)

pub coordinates_of_rows-requires-clause-field : goal.coordinates_of_rows-requires-clause-field
coordinates_of_rows-requires-clause-field c =
    let h = c.args.header.now in
    let a = c.args.a.now in
    let b = c.args.bases.now in
    let r = c.args.arrow in
    let es = source_basis h a c.requires.allowed c.requires.shape r c.requires.arrow b c.requires.spaces c.source_at.result c.index-source.result.now c.source_at.ensures c.index-source.ensures in
    let em = arrow_matrix h a c.requires.allowed c.requires.shape r c.requires.arrow c.index.result.now c.index.ensures in
    let et = target_basis h a c.requires.allowed c.requires.shape r c.requires.arrow b c.requires.spaces c.target_at.result c.index-target.result.now c.target_at.ensures c.index-target.ensures in
    let i = is_inside h a c.requires.allowed c.requires.shape r c.requires.arrow b c.requires.spaces c.source_at.result c.index-source.result.now c.index.result.now c.source_at.ensures c.index-source.ensures c.index.ensures in
    along_field _ _ _ _ _ _ _ _ i _ _ _ es em et c.in_ok-along.along c.in_ok-along.ensures

pub coordinates_of_rows-requires-clause-width : goal.coordinates_of_rows-requires-clause-width
coordinates_of_rows-requires-clause-width c =
    let h = c.args.header.now in
    let a = c.args.a.now in
    let b = c.args.bases.now in
    let r = c.args.arrow in
    let es = source_basis h a c.requires.allowed c.requires.shape r c.requires.arrow b c.requires.spaces c.source_at.result c.index-source.result.now c.source_at.ensures c.index-source.ensures in
    let em = arrow_matrix h a c.requires.allowed c.requires.shape r c.requires.arrow c.index.result.now c.index.ensures in
    let et = target_basis h a c.requires.allowed c.requires.shape r c.requires.arrow b c.requires.spaces c.target_at.result c.index-target.result.now c.target_at.ensures c.index-target.ensures in
    let i = is_inside h a c.requires.allowed c.requires.shape r c.requires.arrow b c.requires.spaces c.source_at.result c.index-source.result.now c.index.result.now c.source_at.ensures c.index-source.ensures c.index.ensures in
    along_width _ _ _ _ _ _ _ _ i _ _ _ es em et c.in_ok-along.along c.in_ok-along.ensures

pub coordinates_of_rows-requires-clause-reduced : goal.coordinates_of_rows-requires-clause-reduced
coordinates_of_rows-requires-clause-reduced c =
    let h = c.args.header.now in
    let a = c.args.a.now in
    let b = c.args.bases.now in
    let r = c.args.arrow in
    let es = source_basis h a c.requires.allowed c.requires.shape r c.requires.arrow b c.requires.spaces c.source_at.result c.index-source.result.now c.source_at.ensures c.index-source.ensures in
    let em = arrow_matrix h a c.requires.allowed c.requires.shape r c.requires.arrow c.index.result.now c.index.ensures in
    let et = target_basis h a c.requires.allowed c.requires.shape r c.requires.arrow b c.requires.spaces c.target_at.result c.index-target.result.now c.target_at.ensures c.index-target.ensures in
    let i = is_inside h a c.requires.allowed c.requires.shape r c.requires.arrow b c.requires.spaces c.source_at.result c.index-source.result.now c.index.result.now c.source_at.ensures c.index-source.ensures c.index.ensures in
    target_reduced _ _ _ _ _ _ _ _ i _ _ _ es em et

pub coordinates_of_rows-requires-clause-inside : goal.coordinates_of_rows-requires-clause-inside
coordinates_of_rows-requires-clause-inside c =
    let h = c.args.header.now in
    let a = c.args.a.now in
    let b = c.args.bases.now in
    let r = c.args.arrow in
    let es = source_basis h a c.requires.allowed c.requires.shape r c.requires.arrow b c.requires.spaces c.source_at.result c.index-source.result.now c.source_at.ensures c.index-source.ensures in
    let em = arrow_matrix h a c.requires.allowed c.requires.shape r c.requires.arrow c.index.result.now c.index.ensures in
    let et = target_basis h a c.requires.allowed c.requires.shape r c.requires.arrow b c.requires.spaces c.target_at.result c.index-target.result.now c.target_at.ensures c.index-target.ensures in
    let i = is_inside h a c.requires.allowed c.requires.shape r c.requires.arrow b c.requires.spaces c.source_at.result c.index-source.result.now c.index.result.now c.source_at.ensures c.index-source.ensures c.index.ensures in
    along_inside _ _ _ _ _ _ _ _ i _ _ _ es em et c.in_ok-along.along c.in_ok-along.ensures

pub returns : goal.returns
returns c =
    let h = c.args.header.now in
    let a = c.args.a.now in
    let b = c.args.bases.now in
    let r = c.args.arrow in
    let es = source_basis h a c.requires.allowed c.requires.shape r c.requires.arrow b c.requires.spaces c.source_at.result c.index-source.result.now c.source_at.ensures c.index-source.ensures in
    let em = arrow_matrix h a c.requires.allowed c.requires.shape r c.requires.arrow c.index.result.now c.index.ensures in
    let et = target_basis h a c.requires.allowed c.requires.shape r c.requires.arrow b c.requires.spaces c.target_at.result c.index-target.result.now c.target_at.ensures c.index-target.ensures in
    let i = is_inside h a c.requires.allowed c.requires.shape r c.requires.arrow b c.requires.spaces c.source_at.result c.index-source.result.now c.index.result.now c.source_at.ensures c.index-source.ensures c.index.ensures in
    record {
      shape = result_shape _ _ _ _ _ _ _ _ i _ _ _ es em et c.in_ok-along.along c.in_ok-along.ensures c.in_ok-matrix.matrix c.in_ok-matrix.ensures.shape c.in_ok-matrix.ensures.matrix c.in_ok-matrix.ensures.coordinates;
      commutes = result_combines _ _ _ _ _ _ _ _ i _ _ _ es em et c.in_ok-along.along c.in_ok-along.ensures c.in_ok-matrix.matrix c.in_ok-matrix.ensures.shape c.in_ok-matrix.ensures.matrix c.in_ok-matrix.ensures.coordinates;
    }
