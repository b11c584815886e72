use Rattle.std.proofs.Common.{◌≡◌, ◌<◌, length, subst, sym, arith}
use Rattle.fp_linear.proofs.Slices.{AreElements-set}
use Rattle.module_types.specs.Algebras.{algebra_at}
use Rattle.module_types.specs.Readings.{rep_of}
use Rattle.module_checks.proofs.Walks.{dim_within}
use Rattle.translate_checks.proofs.Ends.{arrows_at_side, arrow_plain, arrow_field}
use Rattle.sequence_checks.proofs.PulledRows.{dual_step}
use Rattle.sequence_checks.proofs.PartRows.{HasDots, dots-none, dots-more}
use Rattle.sequence_checks.proofs.pullbacks.step_in_dual.Goals as goal

pub index-matrix-requires : goal.index-matrix-requires
index-matrix-requires c =
    let s = arrows_at_side c.args.side c.args.header.now in
    let n = c.requires.m.matrices.counted in
    omega (arith, s, n, c.requires.arrow)

pub loop-j-init : goal.loop-j-init
loop-j-init c = record { dots = dots-none c.args.header.now.field c.index-matrix.result.now c.args.row.now c.clear.new.entries c.clear.ensures.clear; elements = c.clear.ensures.elements c.args.header.now.field }

pub row_dot-requires-clause-field : goal.row_dot-requires-clause-field
row_dot-requires-clause-field c =
    let h = c.args.header.now in
    let Q = (algebra_at c.args.side h).quiver in
    let kb = subst (λ n. c.args.arrow < n) (sym (arrows_at_side c.args.side h)) c.requires.arrow in
    arrow_field h.field Q c.args.m.now c.requires.m c.args.arrow kb c.index-matrix.result.now c.index-matrix.ensures

pub row_dot-requires-clause-inside : goal.row_dot-requires-clause-inside
row_dot-requires-clause-inside c =
    let h = c.args.header.now in
    let Q = (algebra_at c.args.side h).quiver in
    let kb = subst (λ n. c.args.arrow < n) (sym (arrows_at_side c.args.side h)) c.requires.arrow in
    let p = arrow_plain h.field Q c.args.m.now c.requires.m c.args.arrow kb c.index-matrix.result.now c.index-matrix.ensures in
    let d = dim_within Q c.args.m.now.dims (Q.target c.args.arrow) in
    omega (arith, p.col_count, d, c.requires.m.small, c.requires.row)

pub bounds-next-j : goal.bounds-next-j
bounds-next-j c =
    let h = c.args.header.now in
    let Q = (algebra_at c.args.side h).quiver in
    let kb = subst (λ n. c.args.arrow < n) (sym (arrows_at_side c.args.side h)) c.requires.arrow in
    let p = arrow_plain h.field Q c.args.m.now c.requires.m c.args.arrow kb c.index-matrix.result.now c.index-matrix.ensures in
    let d = dim_within Q c.args.m.now.dims (Q.source c.args.arrow) in
    omega (arith, c.loop-j-test.true, c.rows-j-end.ensures.count, p.row_count, d, c.requires.m.small, c.loop-j.auto.next, c.clear.auto.entries, c.requires.next)

pub loop-j-preserved : goal.loop-j-preserved
loop-j-preserved c =
    let h = c.args.header.now in
    let Q = (algebra_at c.args.side h).quiver in
    let kb = subst (λ n. c.args.arrow < n) (sym (arrows_at_side c.args.side h)) c.requires.arrow in
    let p = arrow_plain h.field Q c.args.m.now c.requires.m c.args.arrow kb c.index-matrix.result.now c.index-matrix.ensures in
    let d = dim_within Q c.args.m.now.dims (Q.source c.args.arrow) in
    let l : c.loop-j.j < length c.loop-j.next = omega (arith, c.loop-j-test.true, c.rows-j-end.ensures.count, p.row_count, d, c.requires.m.small, c.loop-j.auto.next, c.clear.auto.entries, c.requires.next) in
    record {
      dots = dots-more h.field c.index-matrix.result.now c.args.row.now c.loop-j.next c.loop-j.j c.row_dot.result l c.row_dot.ensures.dot c.loop-j.invariant.dots;
      elements = AreElements-set h.field c.loop-j.next c.loop-j.j c.row_dot.result c.loop-j.invariant.elements c.row_dot.ensures.small;
    }

pub returns-clause-step : goal.returns-clause-step
returns-clause-step c =
    let h = c.args.header.now in
    let Q = (algebra_at c.args.side h).quiver in
    let kb = subst (λ n. c.args.arrow < n) (sym (arrows_at_side c.args.side h)) c.requires.arrow in
    let p = arrow_plain h.field Q c.args.m.now c.requires.m c.args.arrow kb c.index-matrix.result.now c.index-matrix.ensures in
    let e : c.loop-j.j ≡ c.index-matrix.result.now.row_count = omega (arith, c.loop-j-test.false, c.loop-j.auto.j-end, c.rows-j-end.ensures.count) in
    let D = subst (HasDots h.field c.index-matrix.result.now c.args.row.now c.loop-j.next) e c.loop-j.invariant.dots in
    dual_step (rep_of h.field Q c.args.m.now) c.args.arrow c.index-matrix.result.now p c.args.row.now c.loop-j.next D.done D.behind
