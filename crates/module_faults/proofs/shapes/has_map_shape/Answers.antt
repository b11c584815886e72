use Rattle.std.proofs.Common.{◌<◌, arith, refl}
use Rattle.module_types.specs.Algebras.{algebra_at}
use Rattle.module_types.specs.Readings.{dim_at}
use Rattle.module_faults.proofs.Sized.{dim_read, one_off, more_sized, vertices_at, counted_at}
use Rattle.module_faults.proofs.shapes.has_map_shape.Goals as goal

pub returns-then-not-has_size : goal.returns-then-not-has_size
returns-then-not-has_size c s =
    let h = c.args.header.now in
    let Q = (algebra_at c.args.a.now.side h).quiver in
    let inside : c.loop-v.v < Q.vertices = (let e = vertices_at c.args.a.now.side h in omega (arith, c.loop-v-test.true, c.len-v-end.ensures)) in
    one_off h.field (dim_at Q c.args.a.now.dims) (dim_at Q c.args.b.now.dims) c.args.matrices.now Q.vertices c.loop-v.v c.index-in-loop-v.result.now c.index-in-loop-v-2.result.now c.index.result.now inside c.index.ensures
    (dim_read Q c.args.a.now.dims c.loop-v.v c.loop-v.v c.index-in-loop-v.result.now (counted_at c.args.a.now.side h c.args.a.now c.requires.a) refl inside c.index-in-loop-v.ensures)
    (dim_read Q c.args.b.now.dims c.loop-v.v c.loop-v.v c.index-in-loop-v-2.result.now (counted_at c.args.a.now.side h c.args.b.now c.requires.b) refl inside c.index-in-loop-v-2.ensures) c.if-not-has_size.ensures s

pub loop-v-preserved : goal.loop-v-preserved
loop-v-preserved c =
    let h = c.args.header.now in
    let Q = (algebra_at c.args.a.now.side h).quiver in
    let inside : c.loop-v.v < Q.vertices = (let e = vertices_at c.args.a.now.side h in omega (arith, c.loop-v-test.true, c.len-v-end.ensures)) in
    more_sized h.field (dim_at Q c.args.a.now.dims) (dim_at Q c.args.b.now.dims) c.args.matrices.now c.loop-v.v c.index-in-loop-v.result.now c.index-in-loop-v-2.result.now c.index.result.now
    (omega (arith, c.if-len.false, c.len.ensures, c.len-2.ensures, c.loop-v-test.true, c.len-v-end.ensures)) c.index.ensures
    (dim_read Q c.args.a.now.dims c.loop-v.v c.loop-v.v c.index-in-loop-v.result.now (counted_at c.args.a.now.side h c.args.a.now c.requires.a) refl inside c.index-in-loop-v.ensures)
    (dim_read Q c.args.b.now.dims c.loop-v.v c.loop-v.v c.index-in-loop-v-2.result.now (counted_at c.args.a.now.side h c.args.b.now c.requires.b) refl inside c.index-in-loop-v-2.ensures) c.if-not-has_size.ensures c.loop-v.invariant
