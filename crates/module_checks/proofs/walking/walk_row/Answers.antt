use Rattle.std.proofs.Common.{◌<◌, sym, subst, arith}
use Rattle.fp_linear.specs.Slices.{AreElements}
use Rattle.quiver_paths.specs.Quiver.{arrow_count}
use Rattle.module_types.specs.Algebras.{algebra_at}
use Rattle.module_types.specs.Readings.{read}
use Rattle.module_checks.specs.RowWalks.{IsRowTimes}
use Rattle.module_checks.proofs.Sides.{arrows_at, plain_at}
use Rattle.module_checks.proofs.Walks.{turn_below, dim_within, moved-more}
use Rattle.module_checks.proofs.walking.walk_row.Goals as goal

pub row_times-requires-clause-room : goal.row_times-requires-clause-room
row_times-requires-clause-room c =
    let h = c.args.header.now in
    let m = c.args.m.now in
    let Q = (algebra_at m.side h).quiver in
    let l : c.arrow_at.result < Q.arrows = rw (arrows_at m.side h, c.arrow_at.ensures) (turn_below m.side c.args.arrows.now (arrow_count h.quiver) c.loop-k.k c.requires.arrows (omega (arith, c.len-k-end.ensures))) in
    let p = plain_at h.field Q m c.requires.m c.arrow_at.result c.index-matrix.result.now l c.index-matrix.ensures in
    let d = dim_within Q m.dims (Q.source c.arrow_at.result) in
    omega (arith, p.row_count, d, c.requires.room, c.loop-k.auto.row)

pub row_times-requires-clause-next_room : goal.row_times-requires-clause-next_room
row_times-requires-clause-next_room c =
    let h = c.args.header.now in
    let m = c.args.m.now in
    let Q = (algebra_at m.side h).quiver in
    let l : c.arrow_at.result < Q.arrows = rw (arrows_at m.side h, c.arrow_at.ensures) (turn_below m.side c.args.arrows.now (arrow_count h.quiver) c.loop-k.k c.requires.arrows (omega (arith, c.len-k-end.ensures))) in
    let p = plain_at h.field Q m c.requires.m c.arrow_at.result c.index-matrix.result.now l c.index-matrix.ensures in
    let d = dim_within Q m.dims (Q.target c.arrow_at.result) in
    omega (arith, p.col_count, d, c.requires.room, c.requires.lengths, c.loop-k.auto.next)

pub loop-k-preserved : goal.loop-k-preserved
loop-k-preserved c =
    let h = c.args.header.now in
    let m = c.args.m.now in
    let Q = (algebra_at m.side h).quiver in
    let l : c.arrow_at.result < Q.arrows = rw (arrows_at m.side h, c.arrow_at.ensures) (turn_below m.side c.args.arrows.now (arrow_count h.quiver) c.loop-k.k c.requires.arrows (omega (arith, c.len-k-end.ensures))) in
    let p = plain_at h.field Q m c.requires.m c.arrow_at.result c.index-matrix.result.now l c.index-matrix.ensures in
    record {
      moved = moved-more (read h m) m.side c.loop-k.k c.args.arrows.now c.args.row.now c.loop-k.row c.copy_from_slice.new.self c.index-matrix.result.now c.arrow_at.result c.arrow_at.ensures p c.loop-k.invariant.moved
          (subst (IsRowTimes h.field c.index-matrix.result.now c.loop-k.row) (sym c.copy_from_slice.ensures.after) c.row_times.ensures.times);
      elements = subst (AreElements h.field) (sym c.copy_from_slice.ensures.after) c.row_times.ensures.elements;
      next_elements = c.row_times.ensures.elements;
    }
