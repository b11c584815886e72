use Rattle.std.proofs.Common.{◌≡◌, ◌<◌, ◌-◌, sym, ap, ◌∙◌, arith, subst}
use Rattle.quiver_paths.specs.Quiver.{vertex_count}
use Rattle.path_algebra.specs.declared.Header.{Header}
use Rattle.module_types.specs.declared.Side.{Side}
use Rattle.module_types.specs.Algebras.{algebra_at, other_side}
use Rattle.module_checks.proofs.Sides.{arrows_at, source_inside, target_inside}
use Rattle.module_checks.proofs.Walks.{dim_within}
use Rattle.term_rows.specs.SumDims.{sum_dim}
use Rattle.translate_checks.specs.Steps.{module_in, injectives_in}
use Rattle.translate_checks.proofs.AcrossRows.{dim_across}
use Rattle.translate_checks.proofs.Ends.{arrow_plain, arrow_column, small_there}
use Rattle.sequence_checks.proofs.AroundSteps.{column_first, column_second}
use Rattle.sequence_checks.proofs.homs.write_around_column.Goals as goal

pub sum_dimension-first-requires-clause-vertex : goal.sum_dimension-first-requires-clause-vertex
sum_dimension-first-requires-clause-vertex c =
    let h = c.args.table.now.header in
    let ws = c.args.table.now.words in
    let side = c.args.side in
    let m = c.args.m.now in
    let vs = c.args.vertices.now in
    let k = c.args.k in
    let Q = (algebra_at side h).quiver in
    let E = c.requires.table.allowed.quiver.ends in
    let te : c.target_at-target.result ≡ Q.target k = c.target_at-target.ensures ∙ ap (λ (h : Header). (algebra_at side h).quiver.target k) c.header-header.ensures.header in
    let se : c.source_at-source.result ≡ Q.source k = c.source_at-source.ensures ∙ ap (λ (h : Header). (algebra_at side h).quiver.source k) c.header-header.ensures.header in
    let tb = small_there side h (Q.target k) (target_inside side h E k c.requires.arrow) in
    let sb = small_there side h (Q.source k) (source_inside side h E k c.requires.arrow) in
    let ts = c.requires.small.fits (Q.target k) tb in
    let ss = c.requires.small.fits (Q.source k) sb in
    subst (λ v. v < vertex_count h.quiver) (sym te) tb

pub sum_dimension-first-requires-clause-small : goal.sum_dimension-first-requires-clause-small
sum_dimension-first-requires-clause-small c =
    let h = c.args.table.now.header in
    let ws = c.args.table.now.words in
    let side = c.args.side in
    let m = c.args.m.now in
    let vs = c.args.vertices.now in
    let k = c.args.k in
    let Q = (algebra_at side h).quiver in
    let E = c.requires.table.allowed.quiver.ends in
    let te : c.target_at-target.result ≡ Q.target k = c.target_at-target.ensures ∙ ap (λ (h : Header). (algebra_at side h).quiver.target k) c.header-header.ensures.header in
    let se : c.source_at-source.result ≡ Q.source k = c.source_at-source.ensures ∙ ap (λ (h : Header). (algebra_at side h).quiver.source k) c.header-header.ensures.header in
    let tb = small_there side h (Q.target k) (target_inside side h E k c.requires.arrow) in
    let sb = small_there side h (Q.source k) (source_inside side h E k c.requires.arrow) in
    let ts = c.requires.small.fits (Q.target k) tb in
    let ss = c.requires.small.fits (Q.source k) sb in
    subst (λ (o : Side). sum_dim ws o vs c.target_at-target.result < 4294967296) (sym c.other.ensures) (subst (λ v. sum_dim ws (other_side side) vs v < 4294967296) (sym te) (omega (arith, ts)))

pub write_arrow_row-requires-clause-inside : goal.write_arrow_row-requires-clause-inside
write_arrow_row-requires-clause-inside c =
    let h = c.args.table.now.header in
    let ws = c.args.table.now.words in
    let side = c.args.side in
    let m = c.args.m.now in
    let vs = c.args.vertices.now in
    let k = c.args.k in
    let Q = (algebra_at side h).quiver in
    let E = c.requires.table.allowed.quiver.ends in
    let te : c.target_at-target.result ≡ Q.target k = c.target_at-target.ensures ∙ ap (λ (h : Header). (algebra_at side h).quiver.target k) c.header-header.ensures.header in
    let se : c.source_at-source.result ≡ Q.source k = c.source_at-source.ensures ∙ ap (λ (h : Header). (algebra_at side h).quiver.source k) c.header-header.ensures.header in
    let tb = small_there side h (Q.target k) (target_inside side h E k c.requires.arrow) in
    let sb = small_there side h (Q.source k) (source_inside side h E k c.requires.arrow) in
    let ts = c.requires.small.fits (Q.target k) tb in
    let ss = c.requires.small.fits (Q.source k) sb in
    let first : c.sum_dimension-first.result ≡ sum_dim ws (other_side side) vs (Q.target k) = c.sum_dimension-first.ensures ∙ ap (λ s. sum_dim ws s vs c.target_at-target.result) c.other.ensures ∙ ap (sum_dim ws (other_side side) vs) te in
    omega (arith, c.if-j-first.true, first, ts, c.requires.row)

pub returns-then-j-first-clause-column : goal.returns-then-j-first-clause-column
returns-then-j-first-clause-column c = λ t.
    let h = c.args.table.now.header in
    let ws = c.args.table.now.words in
    let side = c.args.side in
    let m = c.args.m.now in
    let vs = c.args.vertices.now in
    let k = c.args.k in
    let Q = (algebra_at side h).quiver in
    let E = c.requires.table.allowed.quiver.ends in
    let te : c.target_at-target.result ≡ Q.target k = c.target_at-target.ensures ∙ ap (λ (h : Header). (algebra_at side h).quiver.target k) c.header-header.ensures.header in
    let se : c.source_at-source.result ≡ Q.source k = c.source_at-source.ensures ∙ ap (λ (h : Header). (algebra_at side h).quiver.source k) c.header-header.ensures.header in
    let tb = small_there side h (Q.target k) (target_inside side h E k c.requires.arrow) in
    let sb = small_there side h (Q.source k) (source_inside side h E k c.requires.arrow) in
    let ts = c.requires.small.fits (Q.target k) tb in
    let ss = c.requires.small.fits (Q.source k) sb in
    let first : c.sum_dimension-first.result ≡ sum_dim ws (other_side side) vs (Q.target k) = c.sum_dimension-first.ensures ∙ ap (λ s. sum_dim ws s vs c.target_at-target.result) c.other.ensures ∙ ap (sum_dim ws (other_side side) vs) te in
    let across = dim_across h ws t side vs (Q.target k) in
    column_first ((injectives_in h ws t side vs).mat k) ((module_in h ws t side m).mat k) c.args.j c.write_arrow_row.new.next (omega (arith, c.if-j-first.true, first, across))
    (arrow_column h ws t side c.other-then-j-first.result vs k c.args.j c.write_arrow_row.new.next c.other-then-j-first.ensures (c.write_arrow_row.ensures.row t))

pub sum_dimension-start-requires-clause-vertex : goal.sum_dimension-start-requires-clause-vertex
sum_dimension-start-requires-clause-vertex c =
    let h = c.args.table.now.header in
    let ws = c.args.table.now.words in
    let side = c.args.side in
    let m = c.args.m.now in
    let vs = c.args.vertices.now in
    let k = c.args.k in
    let Q = (algebra_at side h).quiver in
    let E = c.requires.table.allowed.quiver.ends in
    let te : c.target_at-target.result ≡ Q.target k = c.target_at-target.ensures ∙ ap (λ (h : Header). (algebra_at side h).quiver.target k) c.header-header.ensures.header in
    let se : c.source_at-source.result ≡ Q.source k = c.source_at-source.ensures ∙ ap (λ (h : Header). (algebra_at side h).quiver.source k) c.header-header.ensures.header in
    let tb = small_there side h (Q.target k) (target_inside side h E k c.requires.arrow) in
    let sb = small_there side h (Q.source k) (source_inside side h E k c.requires.arrow) in
    let ts = c.requires.small.fits (Q.target k) tb in
    let ss = c.requires.small.fits (Q.source k) sb in
    subst (λ v. v < vertex_count h.quiver) (sym se) sb

pub sum_dimension-start-requires-clause-small : goal.sum_dimension-start-requires-clause-small
sum_dimension-start-requires-clause-small c =
    let h = c.args.table.now.header in
    let ws = c.args.table.now.words in
    let side = c.args.side in
    let m = c.args.m.now in
    let vs = c.args.vertices.now in
    let k = c.args.k in
    let Q = (algebra_at side h).quiver in
    let E = c.requires.table.allowed.quiver.ends in
    let te : c.target_at-target.result ≡ Q.target k = c.target_at-target.ensures ∙ ap (λ (h : Header). (algebra_at side h).quiver.target k) c.header-header.ensures.header in
    let se : c.source_at-source.result ≡ Q.source k = c.source_at-source.ensures ∙ ap (λ (h : Header). (algebra_at side h).quiver.source k) c.header-header.ensures.header in
    let tb = small_there side h (Q.target k) (target_inside side h E k c.requires.arrow) in
    let sb = small_there side h (Q.source k) (source_inside side h E k c.requires.arrow) in
    let ts = c.requires.small.fits (Q.target k) tb in
    let ss = c.requires.small.fits (Q.source k) sb in
    subst (λ (o : Side). sum_dim ws o vs c.source_at-source.result < 4294967296) (sym c.other-2.ensures) (subst (λ v. sum_dim ws (other_side side) vs v < 4294967296) (sym se) (omega (arith, ss)))

pub write_shifted_column-requires-clause-inside : goal.write_shifted_column-requires-clause-inside
write_shifted_column-requires-clause-inside c =
    let h = c.args.table.now.header in
    let ws = c.args.table.now.words in
    let side = c.args.side in
    let m = c.args.m.now in
    let vs = c.args.vertices.now in
    let k = c.args.k in
    let Q = (algebra_at side h).quiver in
    let E = c.requires.table.allowed.quiver.ends in
    let te : c.target_at-target.result ≡ Q.target k = c.target_at-target.ensures ∙ ap (λ (h : Header). (algebra_at side h).quiver.target k) c.header-header.ensures.header in
    let se : c.source_at-source.result ≡ Q.source k = c.source_at-source.ensures ∙ ap (λ (h : Header). (algebra_at side h).quiver.source k) c.header-header.ensures.header in
    let tb = small_there side h (Q.target k) (target_inside side h E k c.requires.arrow) in
    let sb = small_there side h (Q.source k) (source_inside side h E k c.requires.arrow) in
    let ts = c.requires.small.fits (Q.target k) tb in
    let ss = c.requires.small.fits (Q.source k) sb in
    let first : c.sum_dimension-first.result ≡ sum_dim ws (other_side side) vs (Q.target k) = c.sum_dimension-first.ensures ∙ ap (λ s. sum_dim ws s vs c.target_at-target.result) c.other.ensures ∙ ap (sum_dim ws (other_side side) vs) te in
    let start : c.sum_dimension-start.result ≡ sum_dim ws (other_side side) vs (Q.source k) = c.sum_dimension-start.ensures ∙ ap (λ s. sum_dim ws s vs c.source_at-source.result) c.other-2.ensures ∙ ap (sum_dim ws (other_side side) vs) se in
    let kb : k < Q.arrows = subst (λ n. k < n) (sym (arrows_at side h)) c.requires.arrow in
    let p = arrow_plain h.field Q m c.requires.m k kb c.index.result.now c.index.ensures in
    let within = dim_within Q m.dims (Q.source k) in omega (arith, start, ss, p.row_count, within, c.requires.m.small, c.requires.next)

pub returns-clause-column : goal.returns-clause-column
returns-clause-column c = λ t.
    let h = c.args.table.now.header in
    let ws = c.args.table.now.words in
    let side = c.args.side in
    let m = c.args.m.now in
    let vs = c.args.vertices.now in
    let k = c.args.k in
    let Q = (algebra_at side h).quiver in
    let E = c.requires.table.allowed.quiver.ends in
    let te : c.target_at-target.result ≡ Q.target k = c.target_at-target.ensures ∙ ap (λ (h : Header). (algebra_at side h).quiver.target k) c.header-header.ensures.header in
    let se : c.source_at-source.result ≡ Q.source k = c.source_at-source.ensures ∙ ap (λ (h : Header). (algebra_at side h).quiver.source k) c.header-header.ensures.header in
    let tb = small_there side h (Q.target k) (target_inside side h E k c.requires.arrow) in
    let sb = small_there side h (Q.source k) (source_inside side h E k c.requires.arrow) in
    let ts = c.requires.small.fits (Q.target k) tb in
    let ss = c.requires.small.fits (Q.source k) sb in
    let first : c.sum_dimension-first.result ≡ sum_dim ws (other_side side) vs (Q.target k) = c.sum_dimension-first.ensures ∙ ap (λ s. sum_dim ws s vs c.target_at-target.result) c.other.ensures ∙ ap (sum_dim ws (other_side side) vs) te in
    let start : c.sum_dimension-start.result ≡ sum_dim ws (other_side side) vs (Q.source k) = c.sum_dimension-start.ensures ∙ ap (λ s. sum_dim ws s vs c.source_at-source.result) c.other-2.ensures ∙ ap (sum_dim ws (other_side side) vs) se in
    let kb : k < Q.arrows = subst (λ n. k < n) (sym (arrows_at side h)) c.requires.arrow in
    let p = arrow_plain h.field Q m c.requires.m k kb c.index.result.now c.index.ensures in
    let there = dim_across h ws t side vs (Q.target k) in
    let here = dim_across h ws t side vs (Q.source k) in
    column_second ((injectives_in h ws t side vs).mat k) ((module_in h ws t side m).mat k) c.index.result.now p c.args.j (c.args.j - c.sum_dimension-first.result) c.sum_dimension-start.result c.write_shifted_column.new.into
    (omega (arith, c.if-j-first.false, first, there)) (start ∙ sym here) c.write_shifted_column.ensures.column
