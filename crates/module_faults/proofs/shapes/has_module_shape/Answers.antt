use Rattle.std.proofs.Common.{arith}
use Rattle.module_faults.proofs.Sized.{source_listed, target_listed, source_read, target_read, one_off, more_sized, all_sized, rows_for, columns_for, vertices_at}
use Rattle.module_checks.proofs.Sides.{arrows_at}
use Rattle.module_faults.proofs.shapes.has_module_shape.Goals as goal

pub index-rows-requires : goal.index-rows-requires
index-rows-requires c = source_listed c.args.header.now c.requires c.args.m.now (omega (arith, c.if-len.false, c.len.ensures, c.len-2.ensures)) c.loop-k.k (omega (arith, c.loop-k-test.true, c.len-k-end.ensures)) c.source_at.result c.source_at.ensures

pub index-cols-requires : goal.index-cols-requires
index-cols-requires c = target_listed c.args.header.now c.requires c.args.m.now (omega (arith, c.if-len.false, c.len.ensures, c.len-2.ensures)) c.loop-k.k (omega (arith, c.loop-k-test.true, c.len-k-end.ensures)) c.target_at.result c.target_at.ensures

pub returns-then-not-has_size : goal.returns-then-not-has_size
returns-then-not-has_size c s =
    let h = c.args.header.now in
    let m = c.args.m.now in
    one_off h.field (rows_for h m) (columns_for h m) m.matrices _ c.loop-k.k c.index-rows.result.now c.index-cols.result.now c.index.result.now (let e = arrows_at m.side h in omega (arith, c.loop-k-test.true, c.len-k-end.ensures)) c.index.ensures
    (source_read h c.requires m (omega (arith, c.if-len.false, c.len.ensures, c.len-2.ensures)) c.loop-k.k (omega (arith, c.loop-k-test.true, c.len-k-end.ensures)) c.source_at.result c.index-rows.result.now c.source_at.ensures c.index-rows.ensures)
    (target_read h c.requires m (omega (arith, c.if-len.false, c.len.ensures, c.len-2.ensures)) c.loop-k.k (omega (arith, c.loop-k-test.true, c.len-k-end.ensures)) c.target_at.result c.index-cols.result.now c.target_at.ensures c.index-cols.ensures) c.if-not-has_size.ensures s.matrices

pub loop-k-preserved : goal.loop-k-preserved
loop-k-preserved c =
    let h = c.args.header.now in
    let m = c.args.m.now in
    more_sized h.field (rows_for h m) (columns_for h m) m.matrices c.loop-k.k c.index-rows.result.now c.index-cols.result.now c.index.result.now (omega (arith, c.if-len-2.false, c.len-3.ensures, c.len-4.ensures, c.loop-k-test.true, c.len-k-end.ensures)) c.index.ensures
    (source_read h c.requires m (omega (arith, c.if-len.false, c.len.ensures, c.len-2.ensures)) c.loop-k.k (omega (arith, c.loop-k-test.true, c.len-k-end.ensures)) c.source_at.result c.index-rows.result.now c.source_at.ensures c.index-rows.ensures)
    (target_read h c.requires m (omega (arith, c.if-len.false, c.len.ensures, c.len-2.ensures)) c.loop-k.k (omega (arith, c.loop-k-test.true, c.len-k-end.ensures)) c.target_at.result c.index-cols.result.now c.target_at.ensures c.index-cols.ensures) c.if-not-has_size.ensures c.loop-k.invariant

pub returns : goal.returns
returns c =
    let h = c.args.header.now in
    let m = c.args.m.now in
    let arrows = arrows_at m.side h in
    let vertices = vertices_at m.side h in
    record {
      counted = omega (arith, c.if-len.false, c.len.ensures, c.len-2.ensures);
      matrices = all_sized h.field (rows_for h m) (columns_for h m) m.matrices _ c.loop-k.k (omega (arith, c.if-len-2.false, c.len-3.ensures, c.len-4.ensures)) (omega (arith, c.loop-k-test.false, c.len-k-end.ensures)) c.loop-k.invariant;
    }
