use Rattle.std.proofs.Common.{◌≡◌, ◌<◌, length, refl, sym, ap, ◌∙◌, arith, subst}
use Rattle.linear_algebra.specs.Field.{Gf}
use Rattle.quiver_paths.specs.Quiver.{vertex_count}
use Rattle.path_algebra.specs.declared.Header.{Header}
use Rattle.module_types.specs.declared.Side.{Side}
use Rattle.module_types.specs.Algebras.{algebra_at}
use Rattle.module_types.specs.Readings.{family_of}
use Rattle.term_rows.specs.SumDims.{sum_dim}
use Rattle.translate_checks.specs.Steps.{module_in, injectives_in}
use Rattle.translate_checks.proofs.AcrossRows.{dim_across}
use Rattle.translate_checks.proofs.Ends.{vertices_at_side, end_there, end_plain, end_field, shapes_into}
use Rattle.sequence_checks.specs.Maps.{IsWidened, AreMapsUpTo}
use Rattle.sequence_checks.proofs.AroundSteps.{beside_in, shapes_beside}
use Rattle.sequence_checks.proofs.MapSteps.{widened_yes, widened_no, last_yes, last_no, maps-none, maps-more}
use Rattle.sequence_checks.proofs.maps.are_maps.Goals as goal

pub loop-w-init : goal.loop-w-init
loop-w-init c = λ t.
    let h = c.args.table.now.header in
    let ws = c.args.table.now.words in
    let side = c.args.side in
    let n = c.args.n.now in
    let e = c.args.e.now in
    let m = c.args.m.now in
    let vs = c.args.syzygy.now in
    let f = c.args.f.now in
    let g = c.args.g.now in
    let left = c.args.left.now in
    let middle = c.args.middle.now in
    let N = module_in h ws t side n in
    let E = module_in h ws t side e in
    let I = injectives_in h ws t side vs in
    let M = module_in h ws t side m in
    maps-none N E I M f g left middle

pub index-to_middle-requires : goal.index-to_middle-requires
index-to_middle-requires c =
    let h = c.args.table.now.header in
    let ws = c.args.table.now.words in
    let side = c.args.side in
    let n = c.args.n.now in
    let e = c.args.e.now in
    let m = c.args.m.now in
    let vs = c.args.syzygy.now in
    let f = c.args.f.now in
    let g = c.args.g.now in
    let left = c.args.left.now in
    let middle = c.args.middle.now in
    let w = c.loop-w.w in
    let l : w < length n.dims = omega (arith, c.loop-w-test.true, c.len-w-end.ensures) in
    let v = vertices_at_side side h in
    let b : w < (algebra_at side h).quiver.vertices = omega (arith, l, c.requires.n) in
    let d : w < vertex_count h.quiver = omega (arith, b, v) in
    let N = module_in h ws c.requires.table side n in
    let E = module_in h ws c.requires.table side e in
    let I = injectives_in h ws c.requires.table side vs in
    let M = module_in h ws c.requires.table side m in
    let Y = beside_in h ws c.requires.table side e m vs middle in
    let L = shapes_into h ws c.requires.table side n vs left c.requires.left in
    let J = shapes_beside h ws c.requires.table side e m vs middle c.requires.middle in
    end_there N E f c.requires.f w w refl b

pub index-from_middle-requires : goal.index-from_middle-requires
index-from_middle-requires c =
    let h = c.args.table.now.header in
    let ws = c.args.table.now.words in
    let side = c.args.side in
    let n = c.args.n.now in
    let e = c.args.e.now in
    let m = c.args.m.now in
    let vs = c.args.syzygy.now in
    let f = c.args.f.now in
    let g = c.args.g.now in
    let left = c.args.left.now in
    let middle = c.args.middle.now in
    let w = c.loop-w.w in
    let l : w < length n.dims = omega (arith, c.loop-w-test.true, c.len-w-end.ensures) in
    let v = vertices_at_side side h in
    let b : w < (algebra_at side h).quiver.vertices = omega (arith, l, c.requires.n) in
    let d : w < vertex_count h.quiver = omega (arith, b, v) in
    let N = module_in h ws c.requires.table side n in
    let E = module_in h ws c.requires.table side e in
    let I = injectives_in h ws c.requires.table side vs in
    let M = module_in h ws c.requires.table side m in
    let Y = beside_in h ws c.requires.table side e m vs middle in
    let L = shapes_into h ws c.requires.table side n vs left c.requires.left in
    let J = shapes_beside h ws c.requires.table side e m vs middle c.requires.middle in
    end_there E M g c.requires.g w w refl b

pub index-around-requires : goal.index-around-requires
index-around-requires c =
    let h = c.args.table.now.header in
    let ws = c.args.table.now.words in
    let side = c.args.side in
    let n = c.args.n.now in
    let e = c.args.e.now in
    let m = c.args.m.now in
    let vs = c.args.syzygy.now in
    let f = c.args.f.now in
    let g = c.args.g.now in
    let left = c.args.left.now in
    let middle = c.args.middle.now in
    let w = c.loop-w.w in
    let l : w < length n.dims = omega (arith, c.loop-w-test.true, c.len-w-end.ensures) in
    let v = vertices_at_side side h in
    let b : w < (algebra_at side h).quiver.vertices = omega (arith, l, c.requires.n) in
    let d : w < vertex_count h.quiver = omega (arith, b, v) in
    let N = module_in h ws c.requires.table side n in
    let E = module_in h ws c.requires.table side e in
    let I = injectives_in h ws c.requires.table side vs in
    let M = module_in h ws c.requires.table side m in
    let Y = beside_in h ws c.requires.table side e m vs middle in
    let L = shapes_into h ws c.requires.table side n vs left c.requires.left in
    let J = shapes_beside h ws c.requires.table side e m vs middle c.requires.middle in
    end_there E Y middle J w w refl b

pub index-inside-requires : goal.index-inside-requires
index-inside-requires c =
    let h = c.args.table.now.header in
    let ws = c.args.table.now.words in
    let side = c.args.side in
    let n = c.args.n.now in
    let e = c.args.e.now in
    let m = c.args.m.now in
    let vs = c.args.syzygy.now in
    let f = c.args.f.now in
    let g = c.args.g.now in
    let left = c.args.left.now in
    let middle = c.args.middle.now in
    let w = c.loop-w.w in
    let l : w < length n.dims = omega (arith, c.loop-w-test.true, c.len-w-end.ensures) in
    let v = vertices_at_side side h in
    let b : w < (algebra_at side h).quiver.vertices = omega (arith, l, c.requires.n) in
    let d : w < vertex_count h.quiver = omega (arith, b, v) in
    let N = module_in h ws c.requires.table side n in
    let E = module_in h ws c.requires.table side e in
    let I = injectives_in h ws c.requires.table side vs in
    let M = module_in h ws c.requires.table side m in
    let Y = beside_in h ws c.requires.table side e m vs middle in
    let L = shapes_into h ws c.requires.table side n vs left c.requires.left in
    let J = shapes_beside h ws c.requires.table side e m vs middle c.requires.middle in
    end_there N I left L w w refl b

pub is_widened-requires-clause-fits : goal.is_widened-requires-clause-fits
is_widened-requires-clause-fits c =
    let h = c.args.table.now.header in
    let ws = c.args.table.now.words in
    let side = c.args.side in
    let n = c.args.n.now in
    let e = c.args.e.now in
    let m = c.args.m.now in
    let vs = c.args.syzygy.now in
    let f = c.args.f.now in
    let g = c.args.g.now in
    let left = c.args.left.now in
    let middle = c.args.middle.now in
    let w = c.loop-w.w in
    let l : w < length n.dims = omega (arith, c.loop-w-test.true, c.len-w-end.ensures) in
    let v = vertices_at_side side h in
    let b : w < (algebra_at side h).quiver.vertices = omega (arith, l, c.requires.n) in
    let d : w < vertex_count h.quiver = omega (arith, b, v) in
    let N = module_in h ws c.requires.table side n in
    let E = module_in h ws c.requires.table side e in
    let I = injectives_in h ws c.requires.table side vs in
    let M = module_in h ws c.requires.table side m in
    let Y = beside_in h ws c.requires.table side e m vs middle in
    let L = shapes_into h ws c.requires.table side n vs left c.requires.left in
    let J = shapes_beside h ws c.requires.table side e m vs middle c.requires.middle in
    let fp = end_plain N E f c.requires.f w w c.index-to_middle.result.now refl b c.index-to_middle.ensures in
    let gp = end_plain E M g c.requires.g w w c.index-from_middle.result.now refl b c.index-from_middle.ensures in
    let jp = end_plain E Y middle J w w c.index-around.result.now refl b c.index-around.ensures in
    let ip = end_plain N I left L w w c.index-inside.result.now refl b c.index-inside.ensures in
    record {
      first_field = end_field N E f c.requires.f w w c.index-to_middle.result.now refl b c.index-to_middle.ensures ∙ ap (λ (h : Header). h.field) (sym c.header.ensures.header);
      second_field = end_field E Y middle J w w c.index-around.result.now refl b c.index-around.ensures ∙ ap (λ (h : Header). h.field) (sym c.header.ensures.header);
      between = fp.col_count ∙ sym jp.row_count;
    }

pub is_widened-requires-clause-same : goal.is_widened-requires-clause-same
is_widened-requires-clause-same c =
    let h = c.args.table.now.header in
    let ws = c.args.table.now.words in
    let side = c.args.side in
    let n = c.args.n.now in
    let e = c.args.e.now in
    let m = c.args.m.now in
    let vs = c.args.syzygy.now in
    let f = c.args.f.now in
    let g = c.args.g.now in
    let left = c.args.left.now in
    let middle = c.args.middle.now in
    let w = c.loop-w.w in
    let l : w < length n.dims = omega (arith, c.loop-w-test.true, c.len-w-end.ensures) in
    let v = vertices_at_side side h in
    let b : w < (algebra_at side h).quiver.vertices = omega (arith, l, c.requires.n) in
    let d : w < vertex_count h.quiver = omega (arith, b, v) in
    let N = module_in h ws c.requires.table side n in
    let E = module_in h ws c.requires.table side e in
    let I = injectives_in h ws c.requires.table side vs in
    let M = module_in h ws c.requires.table side m in
    let Y = beside_in h ws c.requires.table side e m vs middle in
    let L = shapes_into h ws c.requires.table side n vs left c.requires.left in
    let J = shapes_beside h ws c.requires.table side e m vs middle c.requires.middle in
    let fp = end_plain N E f c.requires.f w w c.index-to_middle.result.now refl b c.index-to_middle.ensures in
    let gp = end_plain E M g c.requires.g w w c.index-from_middle.result.now refl b c.index-from_middle.ensures in
    let jp = end_plain E Y middle J w w c.index-around.result.now refl b c.index-around.ensures in
    let ip = end_plain N I left L w w c.index-inside.result.now refl b c.index-inside.ensures in
    ip.row_count ∙ sym fp.row_count

pub overflow_cast-w : goal.overflow_cast-w
overflow_cast-w c =
    let h = c.args.table.now.header in
    let ws = c.args.table.now.words in
    let side = c.args.side in
    let n = c.args.n.now in
    let e = c.args.e.now in
    let m = c.args.m.now in
    let vs = c.args.syzygy.now in
    let f = c.args.f.now in
    let g = c.args.g.now in
    let left = c.args.left.now in
    let middle = c.args.middle.now in
    let w = c.loop-w.w in
    let l : w < length n.dims = omega (arith, c.loop-w-test.true, c.len-w-end.ensures) in
    let v = vertices_at_side side h in
    let b : w < (algebra_at side h).quiver.vertices = omega (arith, l, c.requires.n) in
    let d : w < vertex_count h.quiver = omega (arith, b, v) in
    let few = c.requires.table.allowed.quiver.vertices_limit in omega (arith, d, few)

pub sum_dimension-start-requires-clause-vertex : goal.sum_dimension-start-requires-clause-vertex
sum_dimension-start-requires-clause-vertex c =
    let h = c.args.table.now.header in
    let ws = c.args.table.now.words in
    let side = c.args.side in
    let n = c.args.n.now in
    let e = c.args.e.now in
    let m = c.args.m.now in
    let vs = c.args.syzygy.now in
    let f = c.args.f.now in
    let g = c.args.g.now in
    let left = c.args.left.now in
    let middle = c.args.middle.now in
    let w = c.loop-w.w in
    let l : w < length n.dims = omega (arith, c.loop-w-test.true, c.len-w-end.ensures) in
    let v = vertices_at_side side h in
    let b : w < (algebra_at side h).quiver.vertices = omega (arith, l, c.requires.n) in
    let d : w < vertex_count h.quiver = omega (arith, b, v) in
    d

pub sum_dimension-start-requires-clause-small : goal.sum_dimension-start-requires-clause-small
sum_dimension-start-requires-clause-small c =
    let h = c.args.table.now.header in
    let ws = c.args.table.now.words in
    let side = c.args.side in
    let n = c.args.n.now in
    let e = c.args.e.now in
    let m = c.args.m.now in
    let vs = c.args.syzygy.now in
    let f = c.args.f.now in
    let g = c.args.g.now in
    let left = c.args.left.now in
    let middle = c.args.middle.now in
    let w = c.loop-w.w in
    let l : w < length n.dims = omega (arith, c.loop-w-test.true, c.len-w-end.ensures) in
    let v = vertices_at_side side h in
    let b : w < (algebra_at side h).quiver.vertices = omega (arith, l, c.requires.n) in
    let d : w < vertex_count h.quiver = omega (arith, b, v) in
    let s = c.requires.small.fits w d in subst (λ (o : Side). sum_dim ws o vs w < 4294967296) (sym c.other.ensures) (omega (arith, s))

pub are_last-requires-clause-same : goal.are_last-requires-clause-same
are_last-requires-clause-same c =
    let h = c.args.table.now.header in
    let ws = c.args.table.now.words in
    let side = c.args.side in
    let n = c.args.n.now in
    let e = c.args.e.now in
    let m = c.args.m.now in
    let vs = c.args.syzygy.now in
    let f = c.args.f.now in
    let g = c.args.g.now in
    let left = c.args.left.now in
    let middle = c.args.middle.now in
    let w = c.loop-w.w in
    let l : w < length n.dims = omega (arith, c.loop-w-test.true, c.len-w-end.ensures) in
    let v = vertices_at_side side h in
    let b : w < (algebra_at side h).quiver.vertices = omega (arith, l, c.requires.n) in
    let d : w < vertex_count h.quiver = omega (arith, b, v) in
    let N = module_in h ws c.requires.table side n in
    let E = module_in h ws c.requires.table side e in
    let I = injectives_in h ws c.requires.table side vs in
    let M = module_in h ws c.requires.table side m in
    let Y = beside_in h ws c.requires.table side e m vs middle in
    let L = shapes_into h ws c.requires.table side n vs left c.requires.left in
    let J = shapes_beside h ws c.requires.table side e m vs middle c.requires.middle in
    let fp = end_plain N E f c.requires.f w w c.index-to_middle.result.now refl b c.index-to_middle.ensures in
    let gp = end_plain E M g c.requires.g w w c.index-from_middle.result.now refl b c.index-from_middle.ensures in
    let jp = end_plain E Y middle J w w c.index-around.result.now refl b c.index-around.ensures in
    let ip = end_plain N I left L w w c.index-inside.result.now refl b c.index-inside.ensures in
    let start : c.sum_dimension-start.result ≡ I.dim w = c.sum_dimension-start.ensures ∙ ap (λ s. sum_dim ws s vs w) c.other.ensures ∙ sym (dim_across h ws c.requires.table side vs w) in
    jp.row_count ∙ sym gp.row_count

pub are_last-requires-clause-columns : goal.are_last-requires-clause-columns
are_last-requires-clause-columns c =
    let h = c.args.table.now.header in
    let ws = c.args.table.now.words in
    let side = c.args.side in
    let n = c.args.n.now in
    let e = c.args.e.now in
    let m = c.args.m.now in
    let vs = c.args.syzygy.now in
    let f = c.args.f.now in
    let g = c.args.g.now in
    let left = c.args.left.now in
    let middle = c.args.middle.now in
    let w = c.loop-w.w in
    let l : w < length n.dims = omega (arith, c.loop-w-test.true, c.len-w-end.ensures) in
    let v = vertices_at_side side h in
    let b : w < (algebra_at side h).quiver.vertices = omega (arith, l, c.requires.n) in
    let d : w < vertex_count h.quiver = omega (arith, b, v) in
    let N = module_in h ws c.requires.table side n in
    let E = module_in h ws c.requires.table side e in
    let I = injectives_in h ws c.requires.table side vs in
    let M = module_in h ws c.requires.table side m in
    let Y = beside_in h ws c.requires.table side e m vs middle in
    let L = shapes_into h ws c.requires.table side n vs left c.requires.left in
    let J = shapes_beside h ws c.requires.table side e m vs middle c.requires.middle in
    let fp = end_plain N E f c.requires.f w w c.index-to_middle.result.now refl b c.index-to_middle.ensures in
    let gp = end_plain E M g c.requires.g w w c.index-from_middle.result.now refl b c.index-from_middle.ensures in
    let jp = end_plain E Y middle J w w c.index-around.result.now refl b c.index-around.ensures in
    let ip = end_plain N I left L w w c.index-inside.result.now refl b c.index-inside.ensures in
    let start : c.sum_dimension-start.result ≡ I.dim w = c.sum_dimension-start.ensures ∙ ap (λ s. sum_dim ws s vs w) c.other.ensures ∙ sym (dim_across h ws c.requires.table side vs w) in
    omega (arith, start, gp.col_count, jp.col_count)

pub returns-then-not-is_widened : goal.returns-then-not-is_widened
returns-then-not-is_widened c = λ t a.
    let h = c.args.table.now.header in
    let ws = c.args.table.now.words in
    let side = c.args.side in
    let n = c.args.n.now in
    let e = c.args.e.now in
    let m = c.args.m.now in
    let vs = c.args.syzygy.now in
    let f = c.args.f.now in
    let g = c.args.g.now in
    let left = c.args.left.now in
    let middle = c.args.middle.now in
    let w = c.loop-w.w in
    let l : w < length n.dims = omega (arith, c.loop-w-test.true, c.len-w-end.ensures) in
    let v = vertices_at_side side h in
    let b : w < (algebra_at side h).quiver.vertices = omega (arith, l, c.requires.n) in
    let d : w < vertex_count h.quiver = omega (arith, b, v) in
    let N = module_in h ws t side n in
    let E = module_in h ws t side e in
    let I = injectives_in h ws t side vs in
    let M = module_in h ws t side m in
    let Y = beside_in h ws t side e m vs middle in
    let L = shapes_into h ws t side n vs left c.requires.left in
    let J = shapes_beside h ws t side e m vs middle c.requires.middle in
    let fp = end_plain N E f c.requires.f w w c.index-to_middle.result.now refl b c.index-to_middle.ensures in
    let gp = end_plain E M g c.requires.g w w c.index-from_middle.result.now refl b c.index-from_middle.ensures in
    let jp = end_plain E Y middle J w w c.index-around.result.now refl b c.index-around.ensures in
    let ip = end_plain N I left L w w c.index-inside.result.now refl b c.index-inside.ensures in
    c.if-not-is_widened.ensures (subst (λ (q : Gf). IsWidened q c.index-to_middle.result.now c.index-around.result.now c.index-inside.result.now c.index-to_middle.result.now.row_count) (ap (λ (h : Header). h.field) (sym c.header.ensures.header)) (widened_no (I.dim w) (M.dim w) (family_of N E f w) (family_of E Y middle w) (family_of N I left w) c.index-to_middle.result.now c.index-around.result.now c.index-inside.result.now fp jp ip (a.first w l)))

pub returns-then-not-are_last : goal.returns-then-not-are_last
returns-then-not-are_last c = λ t a.
    let h = c.args.table.now.header in
    let ws = c.args.table.now.words in
    let side = c.args.side in
    let n = c.args.n.now in
    let e = c.args.e.now in
    let m = c.args.m.now in
    let vs = c.args.syzygy.now in
    let f = c.args.f.now in
    let g = c.args.g.now in
    let left = c.args.left.now in
    let middle = c.args.middle.now in
    let w = c.loop-w.w in
    let l : w < length n.dims = omega (arith, c.loop-w-test.true, c.len-w-end.ensures) in
    let v = vertices_at_side side h in
    let b : w < (algebra_at side h).quiver.vertices = omega (arith, l, c.requires.n) in
    let d : w < vertex_count h.quiver = omega (arith, b, v) in
    let N = module_in h ws t side n in
    let E = module_in h ws t side e in
    let I = injectives_in h ws t side vs in
    let M = module_in h ws t side m in
    let Y = beside_in h ws t side e m vs middle in
    let L = shapes_into h ws t side n vs left c.requires.left in
    let J = shapes_beside h ws t side e m vs middle c.requires.middle in
    let fp = end_plain N E f c.requires.f w w c.index-to_middle.result.now refl b c.index-to_middle.ensures in
    let gp = end_plain E M g c.requires.g w w c.index-from_middle.result.now refl b c.index-from_middle.ensures in
    let jp = end_plain E Y middle J w w c.index-around.result.now refl b c.index-around.ensures in
    let ip = end_plain N I left L w w c.index-inside.result.now refl b c.index-inside.ensures in
    let start : c.sum_dimension-start.result ≡ I.dim w = c.sum_dimension-start.ensures ∙ ap (λ s. sum_dim ws s vs w) c.other.ensures ∙ sym (dim_across h ws t side vs w) in
    c.if-not-are_last.ensures (last_no (I.dim w) (M.dim w) (family_of E Y middle w) (family_of E M g w) c.index-from_middle.result.now c.index-around.result.now gp jp c.sum_dimension-start.result start (a.second w l))

pub loop-w-preserved : goal.loop-w-preserved
loop-w-preserved c = λ t.
    let h = c.args.table.now.header in
    let ws = c.args.table.now.words in
    let side = c.args.side in
    let n = c.args.n.now in
    let e = c.args.e.now in
    let m = c.args.m.now in
    let vs = c.args.syzygy.now in
    let f = c.args.f.now in
    let g = c.args.g.now in
    let left = c.args.left.now in
    let middle = c.args.middle.now in
    let w = c.loop-w.w in
    let l : w < length n.dims = omega (arith, c.loop-w-test.true, c.len-w-end.ensures) in
    let v = vertices_at_side side h in
    let b : w < (algebra_at side h).quiver.vertices = omega (arith, l, c.requires.n) in
    let d : w < vertex_count h.quiver = omega (arith, b, v) in
    let N = module_in h ws t side n in
    let E = module_in h ws t side e in
    let I = injectives_in h ws t side vs in
    let M = module_in h ws t side m in
    let Y = beside_in h ws t side e m vs middle in
    let L = shapes_into h ws t side n vs left c.requires.left in
    let J = shapes_beside h ws t side e m vs middle c.requires.middle in
    let fp = end_plain N E f c.requires.f w w c.index-to_middle.result.now refl b c.index-to_middle.ensures in
    let gp = end_plain E M g c.requires.g w w c.index-from_middle.result.now refl b c.index-from_middle.ensures in
    let jp = end_plain E Y middle J w w c.index-around.result.now refl b c.index-around.ensures in
    let ip = end_plain N I left L w w c.index-inside.result.now refl b c.index-inside.ensures in
    let start : c.sum_dimension-start.result ≡ I.dim w = c.sum_dimension-start.ensures ∙ ap (λ s. sum_dim ws s vs w) c.other.ensures ∙ sym (dim_across h ws t side vs w) in
    maps-more N E I M f g left middle w (c.loop-w.invariant t)
    (widened_yes (I.dim w) (M.dim w) (family_of N E f w) (family_of E Y middle w) (family_of N I left w) c.index-to_middle.result.now c.index-around.result.now c.index-inside.result.now fp jp ip (subst (λ (q : Gf). IsWidened q c.index-to_middle.result.now c.index-around.result.now c.index-inside.result.now c.index-to_middle.result.now.row_count) (ap (λ (h : Header). h.field) c.header.ensures.header) c.if-not-is_widened.ensures))
    (last_yes (I.dim w) (M.dim w) (family_of E Y middle w) (family_of E M g w) c.index-from_middle.result.now c.index-around.result.now gp jp c.sum_dimension-start.result start c.if-not-are_last.ensures)

pub returns : goal.returns
returns c = λ t.
    let h = c.args.table.now.header in
    let ws = c.args.table.now.words in
    let side = c.args.side in
    let n = c.args.n.now in
    let e = c.args.e.now in
    let m = c.args.m.now in
    let vs = c.args.syzygy.now in
    let f = c.args.f.now in
    let g = c.args.g.now in
    let left = c.args.left.now in
    let middle = c.args.middle.now in
    let w = c.loop-w.w in
    let N = module_in h ws t side n in
    let E = module_in h ws t side e in
    let I = injectives_in h ws t side vs in
    let M = module_in h ws t side m in
    subst (AreMapsUpTo N E I M f g left middle) (omega (arith, c.loop-w-test.false, c.loop-w.auto.w-end, c.len-w-end.ensures)) (c.loop-w.invariant t)
