use Rattle.std.proofs.Common.{◌≡◌, ◌<◌, ◌+◌, length, refl, sym, ap, ◌∙◌, arith, subst}
use Rattle.linear_algebra.specs.Field.{Gf}
use Rattle.fp_linear.specs.Slices.{AreElements}
use Rattle.quiver_paths.specs.Quiver.{vertex_count}
use Rattle.path_algebra.specs.declared.Header.{Header}
use Rattle.module_types.specs.declared.Side.{Side}
use Rattle.module_types.specs.Algebras.{algebra_at, other_side}
use Rattle.module_types.specs.Readings.{dim_at, family_of}
use Rattle.module_checks.proofs.Walks.{dim_within}
use Rattle.term_rows.specs.SumDims.{sum_dim}
use Rattle.term_rows.specs.TermCells.{FirstRows}
use Rattle.translate_checks.specs.Dots.{VanishOnRows}
use Rattle.translate_checks.specs.Steps.{module_in}
use Rattle.translate_checks.proofs.AcrossRows.{dim_across}
use Rattle.translate_checks.proofs.DotSteps.{vanish_zero, zero_vanish}
use Rattle.translate_checks.proofs.Ends.{vertices_at_side, end_there, end_plain, end_field}
use Rattle.sequence_checks.specs.Pullbacks.{pulled_back, around_in, ArePulledBack}
use Rattle.sequence_checks.proofs.MiddleSteps.{wide_product, shapes_around, pulled-none, pulled-more}
use Rattle.sequence_checks.proofs.middles.are_pulled_back.Goals as goal

pub loop-w-init : goal.loop-w-init
loop-w-init c = λ t.
    let h = c.args.table.now.header in
    let ws = c.args.table.now.words in
    let side = c.args.side in
    let cover = c.args.cover.now in
    let syzygy = c.args.syzygy.now in
    let p = c.requires.presentation in
    pulled-none h ws t side c.args.m.now cover c.args.functional.now syzygy c.args.e.now c.args.matrices.now

pub overflow_cast-w : goal.overflow_cast-w
overflow_cast-w c =
    let h = c.args.table.now.header in
    let ws = c.args.table.now.words in
    let side = c.args.side in
    let cover = c.args.cover.now in
    let syzygy = c.args.syzygy.now in
    let p = c.requires.presentation in
    let e = c.args.e.now in
    let m = c.args.m.now in
    let phi = c.args.functional.now in
    let w = c.loop-w.w in
    let l : w < length e.dims = omega (arith, c.loop-w-test.true, c.len-w-end.ensures) in
    let counted = c.requires.e.counted in
    let v = vertices_at_side side h in
    let b : w < (algebra_at side h).quiver.vertices = omega (arith, l, counted) in
    let d : w < vertex_count h.quiver = omega (arith, b, v) in
    let few = c.requires.table.allowed.quiver.vertices_limit in
    omega (arith, d, few)

pub write_pullback-requires-clause-vertex : goal.write_pullback-requires-clause-vertex
write_pullback-requires-clause-vertex c =
    let h = c.args.table.now.header in
    let ws = c.args.table.now.words in
    let side = c.args.side in
    let cover = c.args.cover.now in
    let syzygy = c.args.syzygy.now in
    let p = c.requires.presentation in
    let e = c.args.e.now in
    let m = c.args.m.now in
    let phi = c.args.functional.now in
    let w = c.loop-w.w in
    let l : w < length e.dims = omega (arith, c.loop-w-test.true, c.len-w-end.ensures) in
    let counted = c.requires.e.counted in
    let v = vertices_at_side side h in
    let b : w < (algebra_at side h).quiver.vertices = omega (arith, l, counted) in
    let d : w < vertex_count h.quiver = omega (arith, b, v) in
    d

pub index-requires : goal.index-requires
index-requires c =
    let h = c.args.table.now.header in
    let ws = c.args.table.now.words in
    let side = c.args.side in
    let cover = c.args.cover.now in
    let syzygy = c.args.syzygy.now in
    let p = c.requires.presentation in
    let e = c.args.e.now in
    let m = c.args.m.now in
    let phi = c.args.functional.now in
    let w = c.loop-w.w in
    let l : w < length e.dims = omega (arith, c.loop-w-test.true, c.len-w-end.ensures) in
    let counted = c.requires.e.counted in
    let v = vertices_at_side side h in
    let b : w < (algebra_at side h).quiver.vertices = omega (arith, l, counted) in
    let d : w < vertex_count h.quiver = omega (arith, b, v) in
    let X = module_in h ws c.requires.table side e in
    let Y = around_in h ws c.requires.table side m cover phi syzygy in
    let M = shapes_around h ws c.requires.table side m cover phi syzygy e c.args.matrices.now c.requires.matrices in
    end_there X Y c.args.matrices.now M w w refl b

pub sum_dimension-count-requires-clause-vertices : goal.sum_dimension-count-requires-clause-vertices
sum_dimension-count-requires-clause-vertices c =
    c.requires.presentation.vertices

pub sum_dimension-count-requires-clause-small : goal.sum_dimension-count-requires-clause-small
sum_dimension-count-requires-clause-small c =
    let h = c.args.table.now.header in
    let ws = c.args.table.now.words in
    let side = c.args.side in
    let cover = c.args.cover.now in
    let syzygy = c.args.syzygy.now in
    let p = c.requires.presentation in
    let e = c.args.e.now in
    let m = c.args.m.now in
    let phi = c.args.functional.now in
    let w = c.loop-w.w in
    let l : w < length e.dims = omega (arith, c.loop-w-test.true, c.len-w-end.ensures) in
    let counted = c.requires.e.counted in
    let v = vertices_at_side side h in
    let b : w < (algebra_at side h).quiver.vertices = omega (arith, l, counted) in
    let d : w < vertex_count h.quiver = omega (arith, b, v) in
    let s = p.cover_small.fits w d in
    subst (λ (o : Side). sum_dim ws o cover w < 4294967296) (sym c.other.ensures) (omega (arith, s))

pub vanish_on_rows-requires-clause-field : goal.vanish_on_rows-requires-clause-field
vanish_on_rows-requires-clause-field c =
    let h = c.args.table.now.header in
    let ws = c.args.table.now.words in
    let side = c.args.side in
    let cover = c.args.cover.now in
    let syzygy = c.args.syzygy.now in
    let p = c.requires.presentation in
    let e = c.args.e.now in
    let m = c.args.m.now in
    let phi = c.args.functional.now in
    let w = c.loop-w.w in
    let l : w < length e.dims = omega (arith, c.loop-w-test.true, c.len-w-end.ensures) in
    let counted = c.requires.e.counted in
    let v = vertices_at_side side h in
    let b : w < (algebra_at side h).quiver.vertices = omega (arith, l, counted) in
    let d : w < vertex_count h.quiver = omega (arith, b, v) in
    let X = module_in h ws c.requires.table side e in
    let Y = around_in h ws c.requires.table side m cover phi syzygy in
    let M = shapes_around h ws c.requires.table side m cover phi syzygy e c.args.matrices.now c.requires.matrices in
    end_field X Y c.args.matrices.now M w w c.index.result.now refl b c.index.ensures ∙ ap (λ (h : Header). h.field) (sym c.header.ensures.header)

pub vanish_on_rows-requires-clause-inside : goal.vanish_on_rows-requires-clause-inside
vanish_on_rows-requires-clause-inside c =
    let h = c.args.table.now.header in
    let ws = c.args.table.now.words in
    let side = c.args.side in
    let cover = c.args.cover.now in
    let syzygy = c.args.syzygy.now in
    let p = c.requires.presentation in
    let e = c.args.e.now in
    let m = c.args.m.now in
    let phi = c.args.functional.now in
    let w = c.loop-w.w in
    let l : w < length e.dims = omega (arith, c.loop-w-test.true, c.len-w-end.ensures) in
    let counted = c.requires.e.counted in
    let v = vertices_at_side side h in
    let b : w < (algebra_at side h).quiver.vertices = omega (arith, l, counted) in
    let d : w < vertex_count h.quiver = omega (arith, b, v) in
    let X = module_in h ws c.requires.table side e in
    let Y = around_in h ws c.requires.table side m cover phi syzygy in
    let M = shapes_around h ws c.requires.table side m cover phi syzygy e c.args.matrices.now c.requires.matrices in
    let plain = end_plain X Y c.args.matrices.now M w w c.index.result.now refl b c.index.ensures in
    let count : c.sum_dimension-count.result ≡ sum_dim ws (other_side side) cover w = c.sum_dimension-count.ensures ∙ ap (λ s. sum_dim ws s cover w) c.other.ensures in
    let dm = dim_across h ws c.requires.table side syzygy.vertices w in
    let s1 = p.cover_small.fits w d in
    let s2 = p.syzygy_small.fits w d in
    let s3 = dim_within (algebra_at side h).quiver m.dims w in
    wide_product c.sum_dimension-count.result c.index.result.now.col_count _ (omega (arith, count, s1)) (omega (arith, plain.col_count, dm, s2, s3, c.requires.m.small)) (c.write_pullback.auto.into ∙ c.loop-w.auto.into ∙ c.requires.into)

pub vanish_on_rows-requires-clause-elements : goal.vanish_on_rows-requires-clause-elements
vanish_on_rows-requires-clause-elements c =
    subst (λ (q : Gf). AreElements q c.write_pullback.new.into) (ap (λ (h : Header). h.field) (sym c.header.ensures.header)) c.write_pullback.ensures.elements

pub loop-w-preserved : goal.loop-w-preserved
loop-w-preserved c = λ t.
    let h = c.args.table.now.header in
    let ws = c.args.table.now.words in
    let side = c.args.side in
    let cover = c.args.cover.now in
    let syzygy = c.args.syzygy.now in
    let p = c.requires.presentation in
    let e = c.args.e.now in
    let m = c.args.m.now in
    let phi = c.args.functional.now in
    let w = c.loop-w.w in
    let l : w < length e.dims = omega (arith, c.loop-w-test.true, c.len-w-end.ensures) in
    let counted = c.requires.e.counted in
    let v = vertices_at_side side h in
    let b : w < (algebra_at side h).quiver.vertices = omega (arith, l, counted) in
    let d : w < vertex_count h.quiver = omega (arith, b, v) in
    let X = module_in h ws t side e in
    let Y = around_in h ws t side m cover phi syzygy in
    let M = shapes_around h ws t side m cover phi syzygy e c.args.matrices.now c.requires.matrices in
    let plain = end_plain X Y c.args.matrices.now M w w c.index.result.now refl b c.index.ensures in
    let count : c.sum_dimension-count.result ≡ sum_dim ws (other_side side) cover w = c.sum_dimension-count.ensures ∙ ap (λ s. sum_dim ws s cover w) c.other.ensures in
    pulled-more h ws t side m cover phi syzygy e c.args.matrices.now w (c.loop-w.invariant t)
    (vanish_zero (family_of X Y c.args.matrices.now w) c.index.result.now plain (pulled_back h ws t side m cover phi syzygy w) c.write_pullback.new.into c.sum_dimension-count.result (sum_dim ws (other_side side) syzygy.vertices w + dim_at (algebra_at side h).quiver m.dims w)
    (dim_across h ws t side cover w ∙ sym count) (ap (λ n. n + dim_at (algebra_at side h).quiver m.dims w) (dim_across h ws t side syzygy.vertices w)) (subst (λ n. FirstRows (pulled_back h ws t side m cover phi syzygy w) (sum_dim ws (other_side side) syzygy.vertices w + dim_at (algebra_at side h).quiver m.dims w) n c.write_pullback.new.into) (sym count) (c.write_pullback.ensures.matrix t))
    (subst (λ (q : Gf). VanishOnRows q c.index.result.now c.write_pullback.new.into c.sum_dimension-count.result) (ap (λ (h : Header). h.field) c.header.ensures.header) c.if-not-vanish_on_rows.ensures))

pub returns-then-not-vanish_on_rows : goal.returns-then-not-vanish_on_rows
returns-then-not-vanish_on_rows c = λ t k.
    let h = c.args.table.now.header in
    let ws = c.args.table.now.words in
    let side = c.args.side in
    let cover = c.args.cover.now in
    let syzygy = c.args.syzygy.now in
    let p = c.requires.presentation in
    let e = c.args.e.now in
    let m = c.args.m.now in
    let phi = c.args.functional.now in
    let w = c.loop-w.w in
    let l : w < length e.dims = omega (arith, c.loop-w-test.true, c.len-w-end.ensures) in
    let counted = c.requires.e.counted in
    let v = vertices_at_side side h in
    let b : w < (algebra_at side h).quiver.vertices = omega (arith, l, counted) in
    let d : w < vertex_count h.quiver = omega (arith, b, v) in
    let X = module_in h ws t side e in
    let Y = around_in h ws t side m cover phi syzygy in
    let M = shapes_around h ws t side m cover phi syzygy e c.args.matrices.now c.requires.matrices in
    let plain = end_plain X Y c.args.matrices.now M w w c.index.result.now refl b c.index.ensures in
    let count : c.sum_dimension-count.result ≡ sum_dim ws (other_side side) cover w = c.sum_dimension-count.ensures ∙ ap (λ s. sum_dim ws s cover w) c.other.ensures in
    c.if-not-vanish_on_rows.ensures (subst (λ (q : Gf). VanishOnRows q c.index.result.now c.write_pullback.new.into c.sum_dimension-count.result) (ap (λ (h : Header). h.field) (sym c.header.ensures.header))
    (zero_vanish (family_of X Y c.args.matrices.now w) c.index.result.now plain (pulled_back h ws t side m cover phi syzygy w) c.write_pullback.new.into c.sum_dimension-count.result (sum_dim ws (other_side side) syzygy.vertices w + dim_at (algebra_at side h).quiver m.dims w)
    (dim_across h ws t side cover w ∙ sym count) (ap (λ n. n + dim_at (algebra_at side h).quiver m.dims w) (dim_across h ws t side syzygy.vertices w)) (subst (λ n. FirstRows (pulled_back h ws t side m cover phi syzygy w) (sum_dim ws (other_side side) syzygy.vertices w + dim_at (algebra_at side h).quiver m.dims w) n c.write_pullback.new.into) (sym count) (c.write_pullback.ensures.matrix t)) (k.at w l)))

pub returns : goal.returns
returns c = λ t.
    let h = c.args.table.now.header in
    let ws = c.args.table.now.words in
    let side = c.args.side in
    let cover = c.args.cover.now in
    let syzygy = c.args.syzygy.now in
    let p = c.requires.presentation in
    let e : c.loop-w.w ≡ length c.args.e.now.dims = omega (arith, c.loop-w-test.false, c.loop-w.auto.w-end, c.len-w-end.ensures) in
    subst (ArePulledBack h ws t side c.args.m.now cover c.args.functional.now syzygy c.args.e.now c.args.matrices.now) e (c.loop-w.invariant t)
