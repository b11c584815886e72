use Rattle.std.proofs.Common.{◌≡◌, ◌<◌, sym, ap, ◌∙◌, arith, subst}
use Rattle.linear_algebra.specs.Field.{Gf}
use Rattle.linear_algebra.specs.Matrix.{◌·◌}
use Rattle.path_algebra.specs.declared.Header.{Header}
use Rattle.module_types.specs.Algebras.{algebra_at}
use Rattle.module_types.specs.Readings.{family_of}
use Rattle.module_checks.proofs.Sides.{arrows_at, source_inside, target_inside}
use Rattle.module_checks.proofs.Walks.{dim_within}
use Rattle.translate_checks.specs.Squares.{AgreeInColumn}
use Rattle.translate_checks.specs.Steps.{module_in}
use Rattle.translate_checks.proofs.AcrossRows.{dim_across}
use Rattle.translate_checks.proofs.DotSteps.{column_yes, column_no, agree_columns}
use Rattle.translate_checks.proofs.Ends.{end_there, end_plain, end_field, arrow_plain, small_there}
use Rattle.sequence_checks.proofs.AroundSteps.{beside_in, shapes_beside}
use Rattle.sequence_checks.proofs.homs.goes_around_at.Goals as goal

pub index-target-requires : goal.index-target-requires
index-target-requires c =
    let h = c.args.table.now.header in
    let ws = c.args.table.now.words in
    let side = c.args.side in
    let e = c.args.e.now in
    let m = c.args.m.now in
    let vs = c.args.vertices.now in
    let k = c.args.k in
    let Q = (algebra_at side h).quiver in
    let E = c.requires.table.allowed.quiver.ends in
    let te : c.target_at.result ≡ Q.target k = c.target_at.ensures ∙ ap (λ (h : Header). (algebra_at side h).quiver.target k) c.header-header.ensures.header in
    let tb = target_inside side h E k c.requires.arrow in
    let X = module_in h ws c.requires.table side e in
    let Y = beside_in h ws c.requires.table side e m vs c.args.matrices.now in
    let M = shapes_beside h ws c.requires.table side e m vs c.args.matrices.now c.requires.matrices in
    end_there X Y c.args.matrices.now M (Q.target k) c.target_at.result te tb

pub index-source-requires : goal.index-source-requires
index-source-requires c =
    let h = c.args.table.now.header in
    let ws = c.args.table.now.words in
    let side = c.args.side in
    let e = c.args.e.now in
    let m = c.args.m.now in
    let vs = c.args.vertices.now in
    let k = c.args.k in
    let Q = (algebra_at side h).quiver in
    let E = c.requires.table.allowed.quiver.ends in
    let te : c.target_at.result ≡ Q.target k = c.target_at.ensures ∙ ap (λ (h : Header). (algebra_at side h).quiver.target k) c.header-header.ensures.header in
    let tb = target_inside side h E k c.requires.arrow in
    let se : c.source_at.result ≡ Q.source k = c.source_at.ensures ∙ ap (λ (h : Header). (algebra_at side h).quiver.source k) c.header-header.ensures.header in
    let sb = source_inside side h E k c.requires.arrow in
    let X = module_in h ws c.requires.table side e in
    let Y = beside_in h ws c.requires.table side e m vs c.args.matrices.now in
    let M = shapes_beside h ws c.requires.table side e m vs c.args.matrices.now c.requires.matrices in
    end_there X Y c.args.matrices.now M (Q.source k) c.source_at.result se sb

pub write_around_column-requires-clause-column : goal.write_around_column-requires-clause-column
write_around_column-requires-clause-column c =
    let h = c.args.table.now.header in
    let ws = c.args.table.now.words in
    let side = c.args.side in
    let e = c.args.e.now in
    let m = c.args.m.now in
    let vs = c.args.vertices.now in
    let k = c.args.k in
    let Q = (algebra_at side h).quiver in
    let E = c.requires.table.allowed.quiver.ends in
    let te : c.target_at.result ≡ Q.target k = c.target_at.ensures ∙ ap (λ (h : Header). (algebra_at side h).quiver.target k) c.header-header.ensures.header in
    let tb = target_inside side h E k c.requires.arrow in
    let se : c.source_at.result ≡ Q.source k = c.source_at.ensures ∙ ap (λ (h : Header). (algebra_at side h).quiver.source k) c.header-header.ensures.header in
    let sb = source_inside side h E k c.requires.arrow in
    let X = module_in h ws c.requires.table side e in
    let Y = beside_in h ws c.requires.table side e m vs c.args.matrices.now in
    let M = shapes_beside h ws c.requires.table side e m vs c.args.matrices.now c.requires.matrices in
    let kb : k < Q.arrows = subst (λ n. k < n) (sym (arrows_at side h)) c.requires.arrow in
    let tp = end_plain X Y c.args.matrices.now M (Q.target k) c.target_at.result c.index-target.result.now te tb c.index-target.ensures in
    let sp = end_plain X Y c.args.matrices.now M (Q.source k) c.source_at.result c.index-source.result.now se sb c.index-source.ensures in
    let ep = arrow_plain h.field Q e c.requires.e k kb c.index-along.result.now c.index-along.ensures in
    let there = dim_across h ws c.requires.table side vs (Q.target k) in
    omega (arith, c.loop-j-test.true, c.cols-j-end.ensures.count, tp.col_count, there)

pub column_agrees-requires-clause-t_field : goal.column_agrees-requires-clause-t_field
column_agrees-requires-clause-t_field c =
    let h = c.args.table.now.header in
    let ws = c.args.table.now.words in
    let side = c.args.side in
    let e = c.args.e.now in
    let m = c.args.m.now in
    let vs = c.args.vertices.now in
    let k = c.args.k in
    let Q = (algebra_at side h).quiver in
    let E = c.requires.table.allowed.quiver.ends in
    let te : c.target_at.result ≡ Q.target k = c.target_at.ensures ∙ ap (λ (h : Header). (algebra_at side h).quiver.target k) c.header-header.ensures.header in
    let tb = target_inside side h E k c.requires.arrow in
    let se : c.source_at.result ≡ Q.source k = c.source_at.ensures ∙ ap (λ (h : Header). (algebra_at side h).quiver.source k) c.header-header.ensures.header in
    let sb = source_inside side h E k c.requires.arrow in
    let X = module_in h ws c.requires.table side e in
    let Y = beside_in h ws c.requires.table side e m vs c.args.matrices.now in
    let M = shapes_beside h ws c.requires.table side e m vs c.args.matrices.now c.requires.matrices in
    let kb : k < Q.arrows = subst (λ n. k < n) (sym (arrows_at side h)) c.requires.arrow in
    let tp = end_plain X Y c.args.matrices.now M (Q.target k) c.target_at.result c.index-target.result.now te tb c.index-target.ensures in
    let sp = end_plain X Y c.args.matrices.now M (Q.source k) c.source_at.result c.index-source.result.now se sb c.index-source.ensures in
    let ep = arrow_plain h.field Q e c.requires.e k kb c.index-along.result.now c.index-along.ensures in
    end_field X Y c.args.matrices.now M (Q.target k) c.target_at.result c.index-target.result.now te tb c.index-target.ensures ∙ ap (λ (h : Header). h.field) (sym c.header-header.ensures.header)

pub column_agrees-requires-clause-s_field : goal.column_agrees-requires-clause-s_field
column_agrees-requires-clause-s_field c =
    let h = c.args.table.now.header in
    let ws = c.args.table.now.words in
    let side = c.args.side in
    let e = c.args.e.now in
    let m = c.args.m.now in
    let vs = c.args.vertices.now in
    let k = c.args.k in
    let Q = (algebra_at side h).quiver in
    let E = c.requires.table.allowed.quiver.ends in
    let te : c.target_at.result ≡ Q.target k = c.target_at.ensures ∙ ap (λ (h : Header). (algebra_at side h).quiver.target k) c.header-header.ensures.header in
    let tb = target_inside side h E k c.requires.arrow in
    let se : c.source_at.result ≡ Q.source k = c.source_at.ensures ∙ ap (λ (h : Header). (algebra_at side h).quiver.source k) c.header-header.ensures.header in
    let sb = source_inside side h E k c.requires.arrow in
    let X = module_in h ws c.requires.table side e in
    let Y = beside_in h ws c.requires.table side e m vs c.args.matrices.now in
    let M = shapes_beside h ws c.requires.table side e m vs c.args.matrices.now c.requires.matrices in
    let kb : k < Q.arrows = subst (λ n. k < n) (sym (arrows_at side h)) c.requires.arrow in
    let tp = end_plain X Y c.args.matrices.now M (Q.target k) c.target_at.result c.index-target.result.now te tb c.index-target.ensures in
    let sp = end_plain X Y c.args.matrices.now M (Q.source k) c.source_at.result c.index-source.result.now se sb c.index-source.ensures in
    let ep = arrow_plain h.field Q e c.requires.e k kb c.index-along.result.now c.index-along.ensures in
    end_field X Y c.args.matrices.now M (Q.source k) c.source_at.result c.index-source.result.now se sb c.index-source.ensures ∙ ap (λ (h : Header). h.field) (sym c.header-header.ensures.header)

pub column_agrees-requires-clause-between : goal.column_agrees-requires-clause-between
column_agrees-requires-clause-between c =
    let h = c.args.table.now.header in
    let ws = c.args.table.now.words in
    let side = c.args.side in
    let e = c.args.e.now in
    let m = c.args.m.now in
    let vs = c.args.vertices.now in
    let k = c.args.k in
    let Q = (algebra_at side h).quiver in
    let E = c.requires.table.allowed.quiver.ends in
    let te : c.target_at.result ≡ Q.target k = c.target_at.ensures ∙ ap (λ (h : Header). (algebra_at side h).quiver.target k) c.header-header.ensures.header in
    let tb = target_inside side h E k c.requires.arrow in
    let se : c.source_at.result ≡ Q.source k = c.source_at.ensures ∙ ap (λ (h : Header). (algebra_at side h).quiver.source k) c.header-header.ensures.header in
    let sb = source_inside side h E k c.requires.arrow in
    let X = module_in h ws c.requires.table side e in
    let Y = beside_in h ws c.requires.table side e m vs c.args.matrices.now in
    let M = shapes_beside h ws c.requires.table side e m vs c.args.matrices.now c.requires.matrices in
    let kb : k < Q.arrows = subst (λ n. k < n) (sym (arrows_at side h)) c.requires.arrow in
    let tp = end_plain X Y c.args.matrices.now M (Q.target k) c.target_at.result c.index-target.result.now te tb c.index-target.ensures in
    let sp = end_plain X Y c.args.matrices.now M (Q.source k) c.source_at.result c.index-source.result.now se sb c.index-source.ensures in
    let ep = arrow_plain h.field Q e c.requires.e k kb c.index-along.result.now c.index-along.ensures in
    ep.col_count ∙ sym tp.row_count

pub column_agrees-requires-clause-rows : goal.column_agrees-requires-clause-rows
column_agrees-requires-clause-rows c =
    let h = c.args.table.now.header in
    let ws = c.args.table.now.words in
    let side = c.args.side in
    let e = c.args.e.now in
    let m = c.args.m.now in
    let vs = c.args.vertices.now in
    let k = c.args.k in
    let Q = (algebra_at side h).quiver in
    let E = c.requires.table.allowed.quiver.ends in
    let te : c.target_at.result ≡ Q.target k = c.target_at.ensures ∙ ap (λ (h : Header). (algebra_at side h).quiver.target k) c.header-header.ensures.header in
    let tb = target_inside side h E k c.requires.arrow in
    let se : c.source_at.result ≡ Q.source k = c.source_at.ensures ∙ ap (λ (h : Header). (algebra_at side h).quiver.source k) c.header-header.ensures.header in
    let sb = source_inside side h E k c.requires.arrow in
    let X = module_in h ws c.requires.table side e in
    let Y = beside_in h ws c.requires.table side e m vs c.args.matrices.now in
    let M = shapes_beside h ws c.requires.table side e m vs c.args.matrices.now c.requires.matrices in
    let kb : k < Q.arrows = subst (λ n. k < n) (sym (arrows_at side h)) c.requires.arrow in
    let tp = end_plain X Y c.args.matrices.now M (Q.target k) c.target_at.result c.index-target.result.now te tb c.index-target.ensures in
    let sp = end_plain X Y c.args.matrices.now M (Q.source k) c.source_at.result c.index-source.result.now se sb c.index-source.ensures in
    let ep = arrow_plain h.field Q e c.requires.e k kb c.index-along.result.now c.index-along.ensures in
    sp.row_count ∙ sym ep.row_count

pub column_agrees-requires-clause-inside : goal.column_agrees-requires-clause-inside
column_agrees-requires-clause-inside c =
    let h = c.args.table.now.header in
    let ws = c.args.table.now.words in
    let side = c.args.side in
    let e = c.args.e.now in
    let m = c.args.m.now in
    let vs = c.args.vertices.now in
    let k = c.args.k in
    let Q = (algebra_at side h).quiver in
    let E = c.requires.table.allowed.quiver.ends in
    let te : c.target_at.result ≡ Q.target k = c.target_at.ensures ∙ ap (λ (h : Header). (algebra_at side h).quiver.target k) c.header-header.ensures.header in
    let tb = target_inside side h E k c.requires.arrow in
    let se : c.source_at.result ≡ Q.source k = c.source_at.ensures ∙ ap (λ (h : Header). (algebra_at side h).quiver.source k) c.header-header.ensures.header in
    let sb = source_inside side h E k c.requires.arrow in
    let X = module_in h ws c.requires.table side e in
    let Y = beside_in h ws c.requires.table side e m vs c.args.matrices.now in
    let M = shapes_beside h ws c.requires.table side e m vs c.args.matrices.now c.requires.matrices in
    let kb : k < Q.arrows = subst (λ n. k < n) (sym (arrows_at side h)) c.requires.arrow in
    let tp = end_plain X Y c.args.matrices.now M (Q.target k) c.target_at.result c.index-target.result.now te tb c.index-target.ensures in
    let sp = end_plain X Y c.args.matrices.now M (Q.source k) c.source_at.result c.index-source.result.now se sb c.index-source.ensures in
    let ep = arrow_plain h.field Q e c.requires.e k kb c.index-along.result.now c.index-along.ensures in
    let here = dim_across h ws c.requires.table side vs (Q.source k) in
    let small = c.requires.small.fits (Q.source k) (small_there side h (Q.source k) sb) in
    let within = dim_within Q m.dims (Q.source k) in
    omega (arith, sp.col_count, here, small, within, c.requires.m.small, c.write_around_column.auto.next, c.loop-j.auto.next, c.requires.next)

pub returns-then-not-column_agrees : goal.returns-then-not-column_agrees
returns-then-not-column_agrees c = λ t s.
    let h = c.args.table.now.header in
    let ws = c.args.table.now.words in
    let side = c.args.side in
    let e = c.args.e.now in
    let m = c.args.m.now in
    let vs = c.args.vertices.now in
    let k = c.args.k in
    let Q = (algebra_at side h).quiver in
    let E = c.requires.table.allowed.quiver.ends in
    let te : c.target_at.result ≡ Q.target k = c.target_at.ensures ∙ ap (λ (h : Header). (algebra_at side h).quiver.target k) c.header-header.ensures.header in
    let tb = target_inside side h E k c.requires.arrow in
    let se : c.source_at.result ≡ Q.source k = c.source_at.ensures ∙ ap (λ (h : Header). (algebra_at side h).quiver.source k) c.header-header.ensures.header in
    let sb = source_inside side h E k c.requires.arrow in
    let X = module_in h ws t side e in
    let Y = beside_in h ws t side e m vs c.args.matrices.now in
    let M = shapes_beside h ws t side e m vs c.args.matrices.now c.requires.matrices in
    let kb : k < Q.arrows = subst (λ n. k < n) (sym (arrows_at side h)) c.requires.arrow in
    let tp = end_plain X Y c.args.matrices.now M (Q.target k) c.target_at.result c.index-target.result.now te tb c.index-target.ensures in
    let sp = end_plain X Y c.args.matrices.now M (Q.source k) c.source_at.result c.index-source.result.now se sb c.index-source.ensures in
    let ep = arrow_plain h.field Q e c.requires.e k kb c.index-along.result.now c.index-along.ensures in
    c.if-not-column_agrees.ensures (subst (λ (q : Gf). AgreeInColumn q c.index-along.result.now c.index-target.result.now c.index-source.result.now c.loop-j.j c.write_around_column.new.next c.index-along.result.now.row_count) (ap (λ (h : Header). h.field) (sym c.header-header.ensures.header)) (column_no (X.mat k) (family_of X Y c.args.matrices.now (Q.target k)) (family_of X Y c.args.matrices.now (Q.source k)) (Y.mat k) c.index-along.result.now c.index-target.result.now c.index-source.result.now ep tp sp c.loop-j.j c.write_around_column.new.next (c.write_around_column.ensures.column t) s))

pub loop-j-preserved : goal.loop-j-preserved
loop-j-preserved c = λ t.
    let h = c.args.table.now.header in
    let ws = c.args.table.now.words in
    let side = c.args.side in
    let e = c.args.e.now in
    let m = c.args.m.now in
    let vs = c.args.vertices.now in
    let k = c.args.k in
    let Q = (algebra_at side h).quiver in
    let E = c.requires.table.allowed.quiver.ends in
    let te : c.target_at.result ≡ Q.target k = c.target_at.ensures ∙ ap (λ (h : Header). (algebra_at side h).quiver.target k) c.header-header.ensures.header in
    let tb = target_inside side h E k c.requires.arrow in
    let se : c.source_at.result ≡ Q.source k = c.source_at.ensures ∙ ap (λ (h : Header). (algebra_at side h).quiver.source k) c.header-header.ensures.header in
    let sb = source_inside side h E k c.requires.arrow in
    let X = module_in h ws t side e in
    let Y = beside_in h ws t side e m vs c.args.matrices.now in
    let M = shapes_beside h ws t side e m vs c.args.matrices.now c.requires.matrices in
    let kb : k < Q.arrows = subst (λ n. k < n) (sym (arrows_at side h)) c.requires.arrow in
    let tp = end_plain X Y c.args.matrices.now M (Q.target k) c.target_at.result c.index-target.result.now te tb c.index-target.ensures in
    let sp = end_plain X Y c.args.matrices.now M (Q.source k) c.source_at.result c.index-source.result.now se sb c.index-source.ensures in
    let ep = arrow_plain h.field Q e c.requires.e k kb c.index-along.result.now c.index-along.ensures in
    column_yes (X.mat k) (family_of X Y c.args.matrices.now (Q.target k)) (family_of X Y c.args.matrices.now (Q.source k)) (Y.mat k) c.index-along.result.now c.index-target.result.now c.index-source.result.now ep tp sp c.loop-j.j c.write_around_column.new.next (c.write_around_column.ensures.column t) (subst (λ (q : Gf). AgreeInColumn q c.index-along.result.now c.index-target.result.now c.index-source.result.now c.loop-j.j c.write_around_column.new.next c.index-along.result.now.row_count) (ap (λ (h : Header). h.field) c.header-header.ensures.header) c.if-not-column_agrees.ensures) (c.loop-j.invariant t)

pub returns : goal.returns
returns c = λ t.
    let h = c.args.table.now.header in
    let ws = c.args.table.now.words in
    let side = c.args.side in
    let e = c.args.e.now in
    let m = c.args.m.now in
    let vs = c.args.vertices.now in
    let k = c.args.k in
    let Q = (algebra_at side h).quiver in
    let E = c.requires.table.allowed.quiver.ends in
    let te : c.target_at.result ≡ Q.target k = c.target_at.ensures ∙ ap (λ (h : Header). (algebra_at side h).quiver.target k) c.header-header.ensures.header in
    let tb = target_inside side h E k c.requires.arrow in
    let se : c.source_at.result ≡ Q.source k = c.source_at.ensures ∙ ap (λ (h : Header). (algebra_at side h).quiver.source k) c.header-header.ensures.header in
    let sb = source_inside side h E k c.requires.arrow in
    let X = module_in h ws t side e in
    let Y = beside_in h ws t side e m vs c.args.matrices.now in
    let M = shapes_beside h ws t side e m vs c.args.matrices.now c.requires.matrices in
    let kb : k < Q.arrows = subst (λ n. k < n) (sym (arrows_at side h)) c.requires.arrow in
    let tp = end_plain X Y c.args.matrices.now M (Q.target k) c.target_at.result c.index-target.result.now te tb c.index-target.ensures in
    let sp = end_plain X Y c.args.matrices.now M (Q.source k) c.source_at.result c.index-source.result.now se sb c.index-source.ensures in
    let ep = arrow_plain h.field Q e c.requires.e k kb c.index-along.result.now c.index-along.ensures in
    agree_columns (X.mat k · family_of X Y c.args.matrices.now (Q.target k)) (family_of X Y c.args.matrices.now (Q.source k) · Y.mat k) c.loop-j.j (omega (arith, tp.col_count, c.cols-j-end.ensures.count, c.loop-j-test.false)) (c.loop-j.invariant t)
