use Rattle.std.proofs.Common.{◌≡◌, ◌<◌, sym, ap, ◌∙◌, arith, subst}
use Rattle.linear_algebra.specs.Field.{Gf}
use Rattle.linear_algebra.specs.Matrix.{◌·◌}
use Rattle.path_algebra.specs.declared.Header.{Header}
use Rattle.module_types.specs.Algebras.{algebra_at}
use Rattle.module_types.specs.Readings.{family_of}
use Rattle.module_checks.proofs.Sides.{arrows_at, source_inside, target_inside}
use Rattle.translate_checks.specs.Steps.{module_in, injectives_in}
use Rattle.translate_checks.proofs.AcrossRows.{dim_across}
use Rattle.translate_checks.proofs.Ends.{end_there, end_plain, end_field, arrow_plain, arrow_field, shapes_into, arrow_column, sized_in, small_there}
use Rattle.translate_checks.proofs.DotSteps.{column_yes, column_no, agree_columns, no_columns}
use Rattle.fp_linear.specs.Slices.{AreElements}
use Rattle.translate_checks.specs.Squares.{AgreeInColumn}
use Rattle.translate_checks.proofs.TransposedRows.{room_across}
use Rattle.translate_checks.proofs.homs.goes_into_at.Goals as goal

pub index-target-requires : goal.index-target-requires
index-target-requires c =
    let h = c.args.table.now.header in
    let ws = c.args.table.now.words in
    let side = c.args.side in
    let m = c.args.m.now in
    let vs = c.args.vertices.now in
    let k = c.args.k in
    let Q = (algebra_at side h).quiver in
    let E = c.requires.table.allowed.quiver.ends in
    let te : c.target_at.result ≡ Q.target k = c.target_at.ensures ∙ ap (λ (h : Header). (algebra_at side h).quiver.target k) c.header-header.ensures.header in
    let tb = target_inside side h E k c.requires.arrow in
    let sb = source_inside side h E k c.requires.arrow in
    let kb : k < Q.arrows = subst (λ n. k < n) (sym (arrows_at side h)) c.requires.arrow in
    let X = module_in h ws c.requires.table side m in
    let Y = injectives_in h ws c.requires.table side vs in
    let M = shapes_into h ws c.requires.table side m vs c.args.matrices.now c.requires.matrices in
    end_there X Y c.args.matrices.now M (Q.target k) c.target_at.result te tb

pub index-source-requires : goal.index-source-requires
index-source-requires c =
    let h = c.args.table.now.header in
    let ws = c.args.table.now.words in
    let side = c.args.side in
    let m = c.args.m.now in
    let vs = c.args.vertices.now in
    let k = c.args.k in
    let Q = (algebra_at side h).quiver in
    let E = c.requires.table.allowed.quiver.ends in
    let te : c.target_at.result ≡ Q.target k = c.target_at.ensures ∙ ap (λ (h : Header). (algebra_at side h).quiver.target k) c.header-header.ensures.header in
    let se : c.source_at.result ≡ Q.source k = c.source_at.ensures ∙ ap (λ (h : Header). (algebra_at side h).quiver.source k) c.header-header.ensures.header in
    let tb = target_inside side h E k c.requires.arrow in
    let sb = source_inside side h E k c.requires.arrow in
    let kb : k < Q.arrows = subst (λ n. k < n) (sym (arrows_at side h)) c.requires.arrow in
    let X = module_in h ws c.requires.table side m in
    let Y = injectives_in h ws c.requires.table side vs in
    let M = shapes_into h ws c.requires.table side m vs c.args.matrices.now c.requires.matrices in
    end_there X Y c.args.matrices.now M (Q.source k) c.source_at.result se sb

pub index-along-requires : goal.index-along-requires
index-along-requires c =
    let h = c.args.table.now.header in
    let ws = c.args.table.now.words in
    let side = c.args.side in
    let m = c.args.m.now in
    let vs = c.args.vertices.now in
    let k = c.args.k in
    let Q = (algebra_at side h).quiver in
    let E = c.requires.table.allowed.quiver.ends in
    let te : c.target_at.result ≡ Q.target k = c.target_at.ensures ∙ ap (λ (h : Header). (algebra_at side h).quiver.target k) c.header-header.ensures.header in
    let se : c.source_at.result ≡ Q.source k = c.source_at.ensures ∙ ap (λ (h : Header). (algebra_at side h).quiver.source k) c.header-header.ensures.header in
    let tb = target_inside side h E k c.requires.arrow in
    let sb = source_inside side h E k c.requires.arrow in
    let kb : k < Q.arrows = subst (λ n. k < n) (sym (arrows_at side h)) c.requires.arrow in
    let c1 = c.requires.m.matrices.counted in
    omega (arith, c1, kb)

pub write_arrow_row-requires-clause-inside : goal.write_arrow_row-requires-clause-inside
write_arrow_row-requires-clause-inside c =
    let h = c.args.table.now.header in
    let ws = c.args.table.now.words in
    let side = c.args.side in
    let m = c.args.m.now in
    let vs = c.args.vertices.now in
    let k = c.args.k in
    let Q = (algebra_at side h).quiver in
    let E = c.requires.table.allowed.quiver.ends in
    let te : c.target_at.result ≡ Q.target k = c.target_at.ensures ∙ ap (λ (h : Header). (algebra_at side h).quiver.target k) c.header-header.ensures.header in
    let se : c.source_at.result ≡ Q.source k = c.source_at.ensures ∙ ap (λ (h : Header). (algebra_at side h).quiver.source k) c.header-header.ensures.header in
    let tb = target_inside side h E k c.requires.arrow in
    let sb = source_inside side h E k c.requires.arrow in
    let kb : k < Q.arrows = subst (λ n. k < n) (sym (arrows_at side h)) c.requires.arrow in
    let X = module_in h ws c.requires.table side m in
    let Y = injectives_in h ws c.requires.table side vs in
    let M = shapes_into h ws c.requires.table side m vs c.args.matrices.now c.requires.matrices in
    let tp = end_plain X Y c.args.matrices.now M (Q.target k) c.target_at.result c.index-target.result.now te tb c.index-target.ensures in
    let sp = end_plain X Y c.args.matrices.now M (Q.source k) c.source_at.result c.index-source.result.now se sb c.index-source.ensures in
    let ep = arrow_plain h.field Q m c.requires.m k kb c.index-along.result.now c.index-along.ensures in
    let jb : c.loop-j.j < c.index-target.result.now.col_count = omega (arith, c.loop-j-test.true, c.cols-j-end.ensures.count) in
    let dm = dim_across h ws c.requires.table side vs (Q.target k) in
    let small = c.requires.small.fits (Q.target k) (small_there side h (Q.target k) tb) in
    omega (arith, jb, tp.col_count, dm, small, c.loop-j.auto.row, c.requires.row)

pub write_arrow_row-requires-clause-place : goal.write_arrow_row-requires-clause-place
write_arrow_row-requires-clause-place c =
    let h = c.args.table.now.header in
    let ws = c.args.table.now.words in
    let side = c.args.side in
    let m = c.args.m.now in
    let vs = c.args.vertices.now in
    let k = c.args.k in
    let Q = (algebra_at side h).quiver in
    let E = c.requires.table.allowed.quiver.ends in
    let te : c.target_at.result ≡ Q.target k = c.target_at.ensures ∙ ap (λ (h : Header). (algebra_at side h).quiver.target k) c.header-header.ensures.header in
    let se : c.source_at.result ≡ Q.source k = c.source_at.ensures ∙ ap (λ (h : Header). (algebra_at side h).quiver.source k) c.header-header.ensures.header in
    let tb = target_inside side h E k c.requires.arrow in
    let sb = source_inside side h E k c.requires.arrow in
    let kb : k < Q.arrows = subst (λ n. k < n) (sym (arrows_at side h)) c.requires.arrow in
    let X = module_in h ws c.requires.table side m in
    let Y = injectives_in h ws c.requires.table side vs in
    let M = shapes_into h ws c.requires.table side m vs c.args.matrices.now c.requires.matrices in
    let tp = end_plain X Y c.args.matrices.now M (Q.target k) c.target_at.result c.index-target.result.now te tb c.index-target.ensures in
    let sp = end_plain X Y c.args.matrices.now M (Q.source k) c.source_at.result c.index-source.result.now se sb c.index-source.ensures in
    let ep = arrow_plain h.field Q m c.requires.m k kb c.index-along.result.now c.index-along.ensures in
    let jb : c.loop-j.j < c.index-target.result.now.col_count = omega (arith, c.loop-j-test.true, c.cols-j-end.ensures.count) in
    let dm = dim_across h ws c.requires.table side vs (Q.target k) in
    let small = c.requires.small.fits (Q.target k) (small_there side h (Q.target k) tb) in
    sized_in ws h side c.other.result vs k c.loop-j.j c.other.ensures (omega (arith, jb, tp.col_count, dm))

pub write_arrow_row-requires-clause-room : goal.write_arrow_row-requires-clause-room
write_arrow_row-requires-clause-room c =
    let h = c.args.table.now.header in
    let ws = c.args.table.now.words in
    let side = c.args.side in
    let m = c.args.m.now in
    let vs = c.args.vertices.now in
    let k = c.args.k in
    let Q = (algebra_at side h).quiver in
    let E = c.requires.table.allowed.quiver.ends in
    let te : c.target_at.result ≡ Q.target k = c.target_at.ensures ∙ ap (λ (h : Header). (algebra_at side h).quiver.target k) c.header-header.ensures.header in
    let se : c.source_at.result ≡ Q.source k = c.source_at.ensures ∙ ap (λ (h : Header). (algebra_at side h).quiver.source k) c.header-header.ensures.header in
    let tb = target_inside side h E k c.requires.arrow in
    let sb = source_inside side h E k c.requires.arrow in
    let kb : k < Q.arrows = subst (λ n. k < n) (sym (arrows_at side h)) c.requires.arrow in
    room_across ws h side c.other.result vs _ _ c.other.ensures c.requires.small c.loop-j.auto.row c.requires.row

pub column_agrees-requires-clause-t_field : goal.column_agrees-requires-clause-t_field
column_agrees-requires-clause-t_field c =
    let h = c.args.table.now.header in
    let ws = c.args.table.now.words in
    let side = c.args.side in
    let m = c.args.m.now in
    let vs = c.args.vertices.now in
    let k = c.args.k in
    let Q = (algebra_at side h).quiver in
    let E = c.requires.table.allowed.quiver.ends in
    let te : c.target_at.result ≡ Q.target k = c.target_at.ensures ∙ ap (λ (h : Header). (algebra_at side h).quiver.target k) c.header-header.ensures.header in
    let se : c.source_at.result ≡ Q.source k = c.source_at.ensures ∙ ap (λ (h : Header). (algebra_at side h).quiver.source k) c.header-header.ensures.header in
    let tb = target_inside side h E k c.requires.arrow in
    let sb = source_inside side h E k c.requires.arrow in
    let kb : k < Q.arrows = subst (λ n. k < n) (sym (arrows_at side h)) c.requires.arrow in
    let X = module_in h ws c.requires.table side m in
    let Y = injectives_in h ws c.requires.table side vs in
    let M = shapes_into h ws c.requires.table side m vs c.args.matrices.now c.requires.matrices in
    end_field X Y c.args.matrices.now M (Q.target k) c.target_at.result c.index-target.result.now te tb c.index-target.ensures ∙ ap (λ (h : Header). h.field) (sym c.header-header.ensures.header)

pub column_agrees-requires-clause-s_field : goal.column_agrees-requires-clause-s_field
column_agrees-requires-clause-s_field c =
    let h = c.args.table.now.header in
    let ws = c.args.table.now.words in
    let side = c.args.side in
    let m = c.args.m.now in
    let vs = c.args.vertices.now in
    let k = c.args.k in
    let Q = (algebra_at side h).quiver in
    let E = c.requires.table.allowed.quiver.ends in
    let te : c.target_at.result ≡ Q.target k = c.target_at.ensures ∙ ap (λ (h : Header). (algebra_at side h).quiver.target k) c.header-header.ensures.header in
    let se : c.source_at.result ≡ Q.source k = c.source_at.ensures ∙ ap (λ (h : Header). (algebra_at side h).quiver.source k) c.header-header.ensures.header in
    let tb = target_inside side h E k c.requires.arrow in
    let sb = source_inside side h E k c.requires.arrow in
    let kb : k < Q.arrows = subst (λ n. k < n) (sym (arrows_at side h)) c.requires.arrow in
    let X = module_in h ws c.requires.table side m in
    let Y = injectives_in h ws c.requires.table side vs in
    let M = shapes_into h ws c.requires.table side m vs c.args.matrices.now c.requires.matrices in
    end_field X Y c.args.matrices.now M (Q.source k) c.source_at.result c.index-source.result.now se sb c.index-source.ensures ∙ ap (λ (h : Header). h.field) (sym c.header-header.ensures.header)

pub column_agrees-requires-clause-x_field : goal.column_agrees-requires-clause-x_field
column_agrees-requires-clause-x_field c =
    let h = c.args.table.now.header in
    let ws = c.args.table.now.words in
    let side = c.args.side in
    let m = c.args.m.now in
    let vs = c.args.vertices.now in
    let k = c.args.k in
    let Q = (algebra_at side h).quiver in
    let E = c.requires.table.allowed.quiver.ends in
    let te : c.target_at.result ≡ Q.target k = c.target_at.ensures ∙ ap (λ (h : Header). (algebra_at side h).quiver.target k) c.header-header.ensures.header in
    let se : c.source_at.result ≡ Q.source k = c.source_at.ensures ∙ ap (λ (h : Header). (algebra_at side h).quiver.source k) c.header-header.ensures.header in
    let tb = target_inside side h E k c.requires.arrow in
    let sb = source_inside side h E k c.requires.arrow in
    let kb : k < Q.arrows = subst (λ n. k < n) (sym (arrows_at side h)) c.requires.arrow in
    let X = module_in h ws c.requires.table side m in
    let Y = injectives_in h ws c.requires.table side vs in
    let M = shapes_into h ws c.requires.table side m vs c.args.matrices.now c.requires.matrices in
    arrow_field h.field Q m c.requires.m k kb c.index-along.result.now c.index-along.ensures ∙ ap (λ (h : Header). h.field) (sym c.header-header.ensures.header)

pub column_agrees-requires-clause-between : goal.column_agrees-requires-clause-between
column_agrees-requires-clause-between c =
    let h = c.args.table.now.header in
    let ws = c.args.table.now.words in
    let side = c.args.side in
    let m = c.args.m.now in
    let vs = c.args.vertices.now in
    let k = c.args.k in
    let Q = (algebra_at side h).quiver in
    let E = c.requires.table.allowed.quiver.ends in
    let te : c.target_at.result ≡ Q.target k = c.target_at.ensures ∙ ap (λ (h : Header). (algebra_at side h).quiver.target k) c.header-header.ensures.header in
    let se : c.source_at.result ≡ Q.source k = c.source_at.ensures ∙ ap (λ (h : Header). (algebra_at side h).quiver.source k) c.header-header.ensures.header in
    let tb = target_inside side h E k c.requires.arrow in
    let sb = source_inside side h E k c.requires.arrow in
    let kb : k < Q.arrows = subst (λ n. k < n) (sym (arrows_at side h)) c.requires.arrow in
    let X = module_in h ws c.requires.table side m in
    let Y = injectives_in h ws c.requires.table side vs in
    let M = shapes_into h ws c.requires.table side m vs c.args.matrices.now c.requires.matrices in
    let tp = end_plain X Y c.args.matrices.now M (Q.target k) c.target_at.result c.index-target.result.now te tb c.index-target.ensures in
    let sp = end_plain X Y c.args.matrices.now M (Q.source k) c.source_at.result c.index-source.result.now se sb c.index-source.ensures in
    let ep = arrow_plain h.field Q m c.requires.m k kb c.index-along.result.now c.index-along.ensures in
    ep.col_count ∙ sym tp.row_count

pub column_agrees-requires-clause-rows : goal.column_agrees-requires-clause-rows
column_agrees-requires-clause-rows c =
    let h = c.args.table.now.header in
    let ws = c.args.table.now.words in
    let side = c.args.side in
    let m = c.args.m.now in
    let vs = c.args.vertices.now in
    let k = c.args.k in
    let Q = (algebra_at side h).quiver in
    let E = c.requires.table.allowed.quiver.ends in
    let te : c.target_at.result ≡ Q.target k = c.target_at.ensures ∙ ap (λ (h : Header). (algebra_at side h).quiver.target k) c.header-header.ensures.header in
    let se : c.source_at.result ≡ Q.source k = c.source_at.ensures ∙ ap (λ (h : Header). (algebra_at side h).quiver.source k) c.header-header.ensures.header in
    let tb = target_inside side h E k c.requires.arrow in
    let sb = source_inside side h E k c.requires.arrow in
    let kb : k < Q.arrows = subst (λ n. k < n) (sym (arrows_at side h)) c.requires.arrow in
    let X = module_in h ws c.requires.table side m in
    let Y = injectives_in h ws c.requires.table side vs in
    let M = shapes_into h ws c.requires.table side m vs c.args.matrices.now c.requires.matrices in
    let tp = end_plain X Y c.args.matrices.now M (Q.target k) c.target_at.result c.index-target.result.now te tb c.index-target.ensures in
    let sp = end_plain X Y c.args.matrices.now M (Q.source k) c.source_at.result c.index-source.result.now se sb c.index-source.ensures in
    let ep = arrow_plain h.field Q m c.requires.m k kb c.index-along.result.now c.index-along.ensures in
    sp.row_count ∙ sym ep.row_count

pub column_agrees-requires-clause-inside : goal.column_agrees-requires-clause-inside
column_agrees-requires-clause-inside c =
    let h = c.args.table.now.header in
    let ws = c.args.table.now.words in
    let side = c.args.side in
    let m = c.args.m.now in
    let vs = c.args.vertices.now in
    let k = c.args.k in
    let Q = (algebra_at side h).quiver in
    let E = c.requires.table.allowed.quiver.ends in
    let te : c.target_at.result ≡ Q.target k = c.target_at.ensures ∙ ap (λ (h : Header). (algebra_at side h).quiver.target k) c.header-header.ensures.header in
    let se : c.source_at.result ≡ Q.source k = c.source_at.ensures ∙ ap (λ (h : Header). (algebra_at side h).quiver.source k) c.header-header.ensures.header in
    let tb = target_inside side h E k c.requires.arrow in
    let sb = source_inside side h E k c.requires.arrow in
    let kb : k < Q.arrows = subst (λ n. k < n) (sym (arrows_at side h)) c.requires.arrow in
    let X = module_in h ws c.requires.table side m in
    let Y = injectives_in h ws c.requires.table side vs in
    let M = shapes_into h ws c.requires.table side m vs c.args.matrices.now c.requires.matrices in
    let tp = end_plain X Y c.args.matrices.now M (Q.target k) c.target_at.result c.index-target.result.now te tb c.index-target.ensures in
    let sp = end_plain X Y c.args.matrices.now M (Q.source k) c.source_at.result c.index-source.result.now se sb c.index-source.ensures in
    let ep = arrow_plain h.field Q m c.requires.m k kb c.index-along.result.now c.index-along.ensures in
    let dm = dim_across h ws c.requires.table side vs (Q.source k) in
    let small = c.requires.small.fits (Q.source k) (small_there side h (Q.source k) sb) in
    omega (arith, sp.col_count, dm, small, c.write_arrow_row.auto.next, c.loop-j.auto.next, c.requires.next)

pub column_agrees-requires-clause-elements : goal.column_agrees-requires-clause-elements
column_agrees-requires-clause-elements c =
    let h = c.args.table.now.header in
    let ws = c.args.table.now.words in
    let side = c.args.side in
    let m = c.args.m.now in
    let vs = c.args.vertices.now in
    let k = c.args.k in
    let Q = (algebra_at side h).quiver in
    let E = c.requires.table.allowed.quiver.ends in
    let te : c.target_at.result ≡ Q.target k = c.target_at.ensures ∙ ap (λ (h : Header). (algebra_at side h).quiver.target k) c.header-header.ensures.header in
    let se : c.source_at.result ≡ Q.source k = c.source_at.ensures ∙ ap (λ (h : Header). (algebra_at side h).quiver.source k) c.header-header.ensures.header in
    let tb = target_inside side h E k c.requires.arrow in
    let sb = source_inside side h E k c.requires.arrow in
    let kb : k < Q.arrows = subst (λ n. k < n) (sym (arrows_at side h)) c.requires.arrow in
    subst (λ (q : Gf). AreElements q c.write_arrow_row.new.next) (ap (λ (h : Header). h.field) (sym c.header-header.ensures.header)) c.write_arrow_row.ensures.elements

pub loop-j-init : goal.loop-j-init
loop-j-init c = λ t.
    let h = c.args.table.now.header in
    let ws = c.args.table.now.words in
    let side = c.args.side in
    let m = c.args.m.now in
    let vs = c.args.vertices.now in
    let k = c.args.k in
    let Q = (algebra_at side h).quiver in
    let E = c.requires.table.allowed.quiver.ends in
    let te : c.target_at.result ≡ Q.target k = c.target_at.ensures ∙ ap (λ (h : Header). (algebra_at side h).quiver.target k) c.header-header.ensures.header in
    let se : c.source_at.result ≡ Q.source k = c.source_at.ensures ∙ ap (λ (h : Header). (algebra_at side h).quiver.source k) c.header-header.ensures.header in
    let tb = target_inside side h E k c.requires.arrow in
    let sb = source_inside side h E k c.requires.arrow in
    let kb : k < Q.arrows = subst (λ n. k < n) (sym (arrows_at side h)) c.requires.arrow in
    let X = module_in h ws t side m in
    let Y = injectives_in h ws t side vs in
    let M = shapes_into h ws t side m vs c.args.matrices.now c.requires.matrices in
    no_columns (X.mat k · family_of X Y c.args.matrices.now (Q.target k)) (family_of X Y c.args.matrices.now (Q.source k) · Y.mat k)

pub loop-j-preserved : goal.loop-j-preserved
loop-j-preserved c = λ t.
    let h = c.args.table.now.header in
    let ws = c.args.table.now.words in
    let side = c.args.side in
    let m = c.args.m.now in
    let vs = c.args.vertices.now in
    let k = c.args.k in
    let Q = (algebra_at side h).quiver in
    let E = c.requires.table.allowed.quiver.ends in
    let te : c.target_at.result ≡ Q.target k = c.target_at.ensures ∙ ap (λ (h : Header). (algebra_at side h).quiver.target k) c.header-header.ensures.header in
    let se : c.source_at.result ≡ Q.source k = c.source_at.ensures ∙ ap (λ (h : Header). (algebra_at side h).quiver.source k) c.header-header.ensures.header in
    let tb = target_inside side h E k c.requires.arrow in
    let sb = source_inside side h E k c.requires.arrow in
    let kb : k < Q.arrows = subst (λ n. k < n) (sym (arrows_at side h)) c.requires.arrow in
    let X = module_in h ws t side m in
    let Y = injectives_in h ws t side vs in
    let M = shapes_into h ws t side m vs c.args.matrices.now c.requires.matrices in
    let tp = end_plain X Y c.args.matrices.now M (Q.target k) c.target_at.result c.index-target.result.now te tb c.index-target.ensures in
    let sp = end_plain X Y c.args.matrices.now M (Q.source k) c.source_at.result c.index-source.result.now se sb c.index-source.ensures in
    let ep = arrow_plain h.field Q m c.requires.m k kb c.index-along.result.now c.index-along.ensures in
    column_yes (X.mat k) (family_of X Y c.args.matrices.now (Q.target k)) (family_of X Y c.args.matrices.now (Q.source k)) (Y.mat k) c.index-along.result.now c.index-target.result.now c.index-source.result.now ep tp sp c.loop-j.j c.write_arrow_row.new.next (arrow_column h ws t side c.other.result vs k c.loop-j.j c.write_arrow_row.new.next c.other.ensures (c.write_arrow_row.ensures.row t)) (subst (λ (q : Gf). AgreeInColumn q c.index-along.result.now c.index-target.result.now c.index-source.result.now c.loop-j.j c.write_arrow_row.new.next c.index-along.result.now.row_count) (ap (λ (h : Header). h.field) c.header-header.ensures.header) c.if-not-column_agrees.ensures) (c.loop-j.invariant t)

pub returns-then-not-column_agrees : goal.returns-then-not-column_agrees
returns-then-not-column_agrees c = λ t e.
    let h = c.args.table.now.header in
    let ws = c.args.table.now.words in
    let side = c.args.side in
    let m = c.args.m.now in
    let vs = c.args.vertices.now in
    let k = c.args.k in
    let Q = (algebra_at side h).quiver in
    let E = c.requires.table.allowed.quiver.ends in
    let te : c.target_at.result ≡ Q.target k = c.target_at.ensures ∙ ap (λ (h : Header). (algebra_at side h).quiver.target k) c.header-header.ensures.header in
    let se : c.source_at.result ≡ Q.source k = c.source_at.ensures ∙ ap (λ (h : Header). (algebra_at side h).quiver.source k) c.header-header.ensures.header in
    let tb = target_inside side h E k c.requires.arrow in
    let sb = source_inside side h E k c.requires.arrow in
    let kb : k < Q.arrows = subst (λ n. k < n) (sym (arrows_at side h)) c.requires.arrow in
    let X = module_in h ws t side m in
    let Y = injectives_in h ws t side vs in
    let M = shapes_into h ws t side m vs c.args.matrices.now c.requires.matrices in
    let tp = end_plain X Y c.args.matrices.now M (Q.target k) c.target_at.result c.index-target.result.now te tb c.index-target.ensures in
    let sp = end_plain X Y c.args.matrices.now M (Q.source k) c.source_at.result c.index-source.result.now se sb c.index-source.ensures in
    let ep = arrow_plain h.field Q m c.requires.m k kb c.index-along.result.now c.index-along.ensures in
    c.if-not-column_agrees.ensures (subst (λ (q : Gf). AgreeInColumn q c.index-along.result.now c.index-target.result.now c.index-source.result.now c.loop-j.j c.write_arrow_row.new.next c.index-along.result.now.row_count) (ap (λ (h : Header). h.field) (sym c.header-header.ensures.header)) (column_no (X.mat k) (family_of X Y c.args.matrices.now (Q.target k)) (family_of X Y c.args.matrices.now (Q.source k)) (Y.mat k) c.index-along.result.now c.index-target.result.now c.index-source.result.now ep tp sp c.loop-j.j c.write_arrow_row.new.next (arrow_column h ws t side c.other.result vs k c.loop-j.j c.write_arrow_row.new.next c.other.ensures (c.write_arrow_row.ensures.row t)) e))

pub returns : goal.returns
returns c = λ t.
    let h = c.args.table.now.header in
    let ws = c.args.table.now.words in
    let side = c.args.side in
    let m = c.args.m.now in
    let vs = c.args.vertices.now in
    let k = c.args.k in
    let Q = (algebra_at side h).quiver in
    let E = c.requires.table.allowed.quiver.ends in
    let te : c.target_at.result ≡ Q.target k = c.target_at.ensures ∙ ap (λ (h : Header). (algebra_at side h).quiver.target k) c.header-header.ensures.header in
    let se : c.source_at.result ≡ Q.source k = c.source_at.ensures ∙ ap (λ (h : Header). (algebra_at side h).quiver.source k) c.header-header.ensures.header in
    let tb = target_inside side h E k c.requires.arrow in
    let sb = source_inside side h E k c.requires.arrow in
    let kb : k < Q.arrows = subst (λ n. k < n) (sym (arrows_at side h)) c.requires.arrow in
    let X = module_in h ws t side m in
    let Y = injectives_in h ws t side vs in
    let M = shapes_into h ws t side m vs c.args.matrices.now c.requires.matrices in
    let tp = end_plain X Y c.args.matrices.now M (Q.target k) c.target_at.result c.index-target.result.now te tb c.index-target.ensures in
    let sp = end_plain X Y c.args.matrices.now M (Q.source k) c.source_at.result c.index-source.result.now se sb c.index-source.ensures in
    let ep = arrow_plain h.field Q m c.requires.m k kb c.index-along.result.now c.index-along.ensures in
    agree_columns (X.mat k · family_of X Y c.args.matrices.now (Q.target k)) (family_of X Y c.args.matrices.now (Q.source k) · Y.mat k) c.loop-j.j (omega (arith, tp.col_count, c.cols-j-end.ensures.count, c.loop-j-test.false)) (c.loop-j.invariant t)
