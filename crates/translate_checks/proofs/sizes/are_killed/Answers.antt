use Rattle.std.proofs.Common.{◌≡◌, ◌<◌, length, refl, sym, ap, ◌∙◌, arith, subst}
use Rattle.linear_algebra.specs.Field.{Gf}
use Rattle.fp_linear.specs.Slices.{AreElements}
use Rattle.quiver_paths.specs.Quiver.{vertex_count}
use Rattle.path_algebra.specs.declared.Header.{Header}
use Rattle.module_types.specs.declared.Side.{Side}
use Rattle.module_types.specs.Algebras.{algebra_at, other_side}
use Rattle.module_types.specs.Readings.{family_of}
use Rattle.term_rows.specs.SumDims.{sum_dim}
use Rattle.term_rows.specs.TermCells.{FirstRows}
use Rattle.translate_checks.specs.Across.{transposed_in}
use Rattle.translate_checks.specs.Dots.{VanishOnRows}
use Rattle.translate_checks.specs.Steps.{module_in, injectives_in, AreKilled}
use Rattle.translate_checks.proofs.AcrossRows.{dim_across}
use Rattle.translate_checks.proofs.DotSteps.{vanish_zero, zero_vanish}
use Rattle.translate_checks.proofs.Ends.{vertices_at_side, end_there, end_plain, end_field, shapes_into}
use Rattle.translate_checks.proofs.TransposedRows.{small_product}
use Rattle.translate_checks.proofs.SizeSteps.{killed-none, killed-more}
use Rattle.translate_checks.proofs.sizes.are_killed.Goals as goal

pub loop-w-init : goal.loop-w-init
loop-w-init c = λ t.
    let h = c.args.table.now.header in
    let ws = c.args.table.now.words in
    let side = c.args.side in
    let cover = c.args.cover.now in
    let syzygy = c.args.syzygy.now in
    let p = c.requires.presentation in
    killed-none h ws t side cover syzygy c.args.m.now c.args.matrices.now

pub overflow_cast-w : goal.overflow_cast-w
overflow_cast-w c =
    let h = c.args.table.now.header in
    let ws = c.args.table.now.words in
    let side = c.args.side in
    let cover = c.args.cover.now in
    let syzygy = c.args.syzygy.now in
    let p = c.requires.presentation in
    let m = c.args.m.now in
    let w = c.loop-w.w in
    let l : w < length m.dims = omega (arith, c.loop-w-test.true, c.len-w-end.ensures) in
    let counted = c.requires.m.counted in
    let v = vertices_at_side side h in
    let b : w < (algebra_at side h).quiver.vertices = omega (arith, l, counted) in
    let d : w < vertex_count h.quiver = omega (arith, b, v) in
    let few = c.requires.table.allowed.quiver.vertices_limit in
    omega (arith, d, few)

pub write_transposed-requires-clause-vertex : goal.write_transposed-requires-clause-vertex
write_transposed-requires-clause-vertex c =
    let h = c.args.table.now.header in
    let ws = c.args.table.now.words in
    let side = c.args.side in
    let cover = c.args.cover.now in
    let syzygy = c.args.syzygy.now in
    let p = c.requires.presentation in
    let m = c.args.m.now in
    let w = c.loop-w.w in
    let l : w < length m.dims = omega (arith, c.loop-w-test.true, c.len-w-end.ensures) in
    let counted = c.requires.m.counted in
    let v = vertices_at_side side h in
    let b : w < (algebra_at side h).quiver.vertices = omega (arith, l, counted) in
    let d : w < vertex_count h.quiver = omega (arith, b, v) in
    d

pub index-requires : goal.index-requires
index-requires c =
    let h = c.args.table.now.header in
    let ws = c.args.table.now.words in
    let side = c.args.side in
    let cover = c.args.cover.now in
    let syzygy = c.args.syzygy.now in
    let p = c.requires.presentation in
    let m = c.args.m.now in
    let w = c.loop-w.w in
    let l : w < length m.dims = omega (arith, c.loop-w-test.true, c.len-w-end.ensures) in
    let counted = c.requires.m.counted in
    let v = vertices_at_side side h in
    let b : w < (algebra_at side h).quiver.vertices = omega (arith, l, counted) in
    let d : w < vertex_count h.quiver = omega (arith, b, v) in
    let X = module_in h ws c.requires.table side m in
    let Y = injectives_in h ws c.requires.table side syzygy.vertices in
    let M = shapes_into h ws c.requires.table side m syzygy.vertices c.args.matrices.now c.requires.matrices in
    end_there X Y c.args.matrices.now M w w refl b

pub sum_dimension-count-requires-clause-vertices : goal.sum_dimension-count-requires-clause-vertices
sum_dimension-count-requires-clause-vertices c =
    c.requires.presentation.vertices

pub sum_dimension-count-requires-clause-small : goal.sum_dimension-count-requires-clause-small
sum_dimension-count-requires-clause-small c =
    let h = c.args.table.now.header in
    let ws = c.args.table.now.words in
    let side = c.args.side in
    let cover = c.args.cover.now in
    let syzygy = c.args.syzygy.now in
    let p = c.requires.presentation in
    let m = c.args.m.now in
    let w = c.loop-w.w in
    let l : w < length m.dims = omega (arith, c.loop-w-test.true, c.len-w-end.ensures) in
    let counted = c.requires.m.counted in
    let v = vertices_at_side side h in
    let b : w < (algebra_at side h).quiver.vertices = omega (arith, l, counted) in
    let d : w < vertex_count h.quiver = omega (arith, b, v) in
    let s = p.cover_small.fits w d in
    subst (λ (o : Side). sum_dim ws o cover w < 4294967296) (sym c.other.ensures) (omega (arith, s))

pub vanish_on_rows-requires-clause-field : goal.vanish_on_rows-requires-clause-field
vanish_on_rows-requires-clause-field c =
    let h = c.args.table.now.header in
    let ws = c.args.table.now.words in
    let side = c.args.side in
    let cover = c.args.cover.now in
    let syzygy = c.args.syzygy.now in
    let p = c.requires.presentation in
    let m = c.args.m.now in
    let w = c.loop-w.w in
    let l : w < length m.dims = omega (arith, c.loop-w-test.true, c.len-w-end.ensures) in
    let counted = c.requires.m.counted in
    let v = vertices_at_side side h in
    let b : w < (algebra_at side h).quiver.vertices = omega (arith, l, counted) in
    let d : w < vertex_count h.quiver = omega (arith, b, v) in
    let X = module_in h ws c.requires.table side m in
    let Y = injectives_in h ws c.requires.table side syzygy.vertices in
    let M = shapes_into h ws c.requires.table side m syzygy.vertices c.args.matrices.now c.requires.matrices in
    end_field X Y c.args.matrices.now M w w c.index.result.now refl b c.index.ensures ∙ ap (λ (h : Header). h.field) (sym c.header.ensures.header)

pub vanish_on_rows-requires-clause-inside : goal.vanish_on_rows-requires-clause-inside
vanish_on_rows-requires-clause-inside c =
    let h = c.args.table.now.header in
    let ws = c.args.table.now.words in
    let side = c.args.side in
    let cover = c.args.cover.now in
    let syzygy = c.args.syzygy.now in
    let p = c.requires.presentation in
    let m = c.args.m.now in
    let w = c.loop-w.w in
    let l : w < length m.dims = omega (arith, c.loop-w-test.true, c.len-w-end.ensures) in
    let counted = c.requires.m.counted in
    let v = vertices_at_side side h in
    let b : w < (algebra_at side h).quiver.vertices = omega (arith, l, counted) in
    let d : w < vertex_count h.quiver = omega (arith, b, v) in
    let X = module_in h ws c.requires.table side m in
    let Y = injectives_in h ws c.requires.table side syzygy.vertices in
    let M = shapes_into h ws c.requires.table side m syzygy.vertices c.args.matrices.now c.requires.matrices in
    let plain = end_plain X Y c.args.matrices.now M w w c.index.result.now refl b c.index.ensures in
    let count : c.sum_dimension-count.result ≡ sum_dim ws (other_side side) cover w = c.sum_dimension-count.ensures ∙ ap (λ s. sum_dim ws s cover w) c.other.ensures in
    let dm = dim_across h ws c.requires.table side syzygy.vertices w in
    let s1 = p.cover_small.fits w d in
    let s2 = p.syzygy_small.fits w d in
    small_product c.sum_dimension-count.result c.index.result.now.col_count _ (omega (arith, count, s1)) (omega (arith, plain.col_count, dm, s2)) (c.write_transposed.auto.into ∙ c.loop-w.auto.into ∙ c.requires.into)

pub vanish_on_rows-requires-clause-elements : goal.vanish_on_rows-requires-clause-elements
vanish_on_rows-requires-clause-elements c =
    subst (λ (q : Gf). AreElements q c.write_transposed.new.into) (ap (λ (h : Header). h.field) (sym c.header.ensures.header)) c.write_transposed.ensures.elements

pub loop-w-preserved : goal.loop-w-preserved
loop-w-preserved c = λ t.
    let h = c.args.table.now.header in
    let ws = c.args.table.now.words in
    let side = c.args.side in
    let cover = c.args.cover.now in
    let syzygy = c.args.syzygy.now in
    let p = c.requires.presentation in
    let m = c.args.m.now in
    let w = c.loop-w.w in
    let l : w < length m.dims = omega (arith, c.loop-w-test.true, c.len-w-end.ensures) in
    let counted = c.requires.m.counted in
    let v = vertices_at_side side h in
    let b : w < (algebra_at side h).quiver.vertices = omega (arith, l, counted) in
    let d : w < vertex_count h.quiver = omega (arith, b, v) in
    let X = module_in h ws t side m in
    let Y = injectives_in h ws t side syzygy.vertices in
    let M = shapes_into h ws t side m syzygy.vertices c.args.matrices.now c.requires.matrices in
    let plain = end_plain X Y c.args.matrices.now M w w c.index.result.now refl b c.index.ensures in
    let count : c.sum_dimension-count.result ≡ sum_dim ws (other_side side) cover w = c.sum_dimension-count.ensures ∙ ap (λ s. sum_dim ws s cover w) c.other.ensures in
    killed-more h ws t side cover syzygy m c.args.matrices.now w (c.loop-w.invariant t)
    (vanish_zero (family_of X Y c.args.matrices.now w) c.index.result.now plain (transposed_in h ws t side cover syzygy w) c.write_transposed.new.into c.sum_dimension-count.result (sum_dim ws (other_side side) syzygy.vertices w)
    (dim_across h ws t side cover w ∙ sym count) (dim_across h ws t side syzygy.vertices w) (subst (λ n. FirstRows (transposed_in h ws t side cover syzygy w) (sum_dim ws (other_side side) syzygy.vertices w) n c.write_transposed.new.into) (sym count) (c.write_transposed.ensures.matrix t))
    (subst (λ (q : Gf). VanishOnRows q c.index.result.now c.write_transposed.new.into c.sum_dimension-count.result) (ap (λ (h : Header). h.field) c.header.ensures.header) c.if-not-vanish_on_rows.ensures))

pub returns-then-not-vanish_on_rows : goal.returns-then-not-vanish_on_rows
returns-then-not-vanish_on_rows c = λ t k.
    let h = c.args.table.now.header in
    let ws = c.args.table.now.words in
    let side = c.args.side in
    let cover = c.args.cover.now in
    let syzygy = c.args.syzygy.now in
    let p = c.requires.presentation in
    let m = c.args.m.now in
    let w = c.loop-w.w in
    let l : w < length m.dims = omega (arith, c.loop-w-test.true, c.len-w-end.ensures) in
    let counted = c.requires.m.counted in
    let v = vertices_at_side side h in
    let b : w < (algebra_at side h).quiver.vertices = omega (arith, l, counted) in
    let d : w < vertex_count h.quiver = omega (arith, b, v) in
    let X = module_in h ws t side m in
    let Y = injectives_in h ws t side syzygy.vertices in
    let M = shapes_into h ws t side m syzygy.vertices c.args.matrices.now c.requires.matrices in
    let plain = end_plain X Y c.args.matrices.now M w w c.index.result.now refl b c.index.ensures in
    let count : c.sum_dimension-count.result ≡ sum_dim ws (other_side side) cover w = c.sum_dimension-count.ensures ∙ ap (λ s. sum_dim ws s cover w) c.other.ensures in
    c.if-not-vanish_on_rows.ensures (subst (λ (q : Gf). VanishOnRows q c.index.result.now c.write_transposed.new.into c.sum_dimension-count.result) (ap (λ (h : Header). h.field) (sym c.header.ensures.header))
    (zero_vanish (family_of X Y c.args.matrices.now w) c.index.result.now plain (transposed_in h ws t side cover syzygy w) c.write_transposed.new.into c.sum_dimension-count.result (sum_dim ws (other_side side) syzygy.vertices w)
    (dim_across h ws t side cover w ∙ sym count) (dim_across h ws t side syzygy.vertices w) (subst (λ n. FirstRows (transposed_in h ws t side cover syzygy w) (sum_dim ws (other_side side) syzygy.vertices w) n c.write_transposed.new.into) (sym count) (c.write_transposed.ensures.matrix t)) (k.at w l)))

pub returns : goal.returns
returns c = λ t.
    let h = c.args.table.now.header in
    let ws = c.args.table.now.words in
    let side = c.args.side in
    let cover = c.args.cover.now in
    let syzygy = c.args.syzygy.now in
    let p = c.requires.presentation in
    let e : c.loop-w.w ≡ length c.args.m.now.dims = omega (arith, c.loop-w-test.false, c.loop-w.auto.w-end, c.len-w-end.ensures) in
    subst (AreKilled h ws t side cover syzygy c.args.m.now c.args.matrices.now) e (c.loop-w.invariant t)
