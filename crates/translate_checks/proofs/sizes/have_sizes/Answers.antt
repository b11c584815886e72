use Rattle.std.proofs.Common.{◌≡◌, ◌<◌, length, sym, ap, ◌∙◌, arith, subst}
use Rattle.std.specs.Prelude.{slice_index}
use Rattle.std.proofs.lemmas.Grind.{get_or_default_zero}
use Rattle.quiver_paths.specs.Quiver.{vertex_count}
use Rattle.module_types.specs.declared.Side.{Side}
use Rattle.term_rows.specs.SumDims.{sum_dim}
use Rattle.translate_checks.specs.Across.{across}
use Rattle.translate_checks.specs.Steps.{HaveSizes}
use Rattle.translate_checks.proofs.AcrossRows.{dim_across}
use Rattle.translate_checks.proofs.SizeSteps.{sizes-none, sizes-more, sizes-fail}
use Rattle.translate_checks.proofs.sizes.have_sizes.Goals as goal

pub loop-w-init : goal.loop-w-init
loop-w-init c = λ t.
    let h = c.args.table.now.header in
    let ws = c.args.table.now.words in
    let side = c.args.side in
    let cover = c.args.cover.now in
    let syzygy = c.args.syzygy.now in
    let p = c.requires.presentation in
    sizes-none h ws t side cover syzygy c.args.dims.now

pub overflow_cast-w : goal.overflow_cast-w
overflow_cast-w c =
    let h = c.args.table.now.header in
    let ws = c.args.table.now.words in
    let side = c.args.side in
    let cover = c.args.cover.now in
    let syzygy = c.args.syzygy.now in
    let p = c.requires.presentation in
    let dims = c.args.dims.now in
    let w = c.loop-w.w in
    let l : w < length dims = omega (arith, c.loop-w-test.true, c.len-w-end.ensures) in
    let d : w < vertex_count h.quiver = omega (arith, l, c.requires.dims) in
    let few = c.requires.table.allowed.quiver.vertices_limit in
    omega (arith, d, few)

pub transposed_rank-rank-requires-clause-vertex : goal.transposed_rank-rank-requires-clause-vertex
transposed_rank-rank-requires-clause-vertex c =
    let h = c.args.table.now.header in
    let ws = c.args.table.now.words in
    let side = c.args.side in
    let cover = c.args.cover.now in
    let syzygy = c.args.syzygy.now in
    let p = c.requires.presentation in
    let dims = c.args.dims.now in
    let w = c.loop-w.w in
    let l : w < length dims = omega (arith, c.loop-w-test.true, c.len-w-end.ensures) in
    let d : w < vertex_count h.quiver = omega (arith, l, c.requires.dims) in
    d

pub sum_dimension-whole-requires-clause-vertices : goal.sum_dimension-whole-requires-clause-vertices
sum_dimension-whole-requires-clause-vertices c =
    record { declared = c.requires.presentation.term.declared }

pub sum_dimension-whole-requires-clause-small : goal.sum_dimension-whole-requires-clause-small
sum_dimension-whole-requires-clause-small c =
    let h = c.args.table.now.header in
    let ws = c.args.table.now.words in
    let side = c.args.side in
    let cover = c.args.cover.now in
    let syzygy = c.args.syzygy.now in
    let p = c.requires.presentation in
    let dims = c.args.dims.now in
    let w = c.loop-w.w in
    let l : w < length dims = omega (arith, c.loop-w-test.true, c.len-w-end.ensures) in
    let d : w < vertex_count h.quiver = omega (arith, l, c.requires.dims) in
    let s = p.syzygy_small.fits w d in
    subst (λ (o : Side). sum_dim ws o syzygy.vertices w < 4294967296) (sym c.other.ensures) (omega (arith, s))

pub loop-w-preserved : goal.loop-w-preserved
loop-w-preserved c = λ t.
    let h = c.args.table.now.header in
    let ws = c.args.table.now.words in
    let side = c.args.side in
    let cover = c.args.cover.now in
    let syzygy = c.args.syzygy.now in
    let p = c.requires.presentation in
    let dims = c.args.dims.now in
    let w = c.loop-w.w in
    let l : w < length dims = omega (arith, c.loop-w-test.true, c.len-w-end.ensures) in
    let d : w < vertex_count h.quiver = omega (arith, l, c.requires.dims) in
    let whole : c.sum_dimension-whole.result ≡ (across h ws t side syzygy.vertices).dim w = c.sum_dimension-whole.ensures ∙ ap (λ s. sum_dim ws s syzygy.vertices w) c.other.ensures ∙ sym (dim_across h ws t side syzygy.vertices w) in
    let at : c.index.result.now ≡ slice_index dims w = c.index.ensures ∙ get_or_default_zero dims w c.index.result.now l in
    sizes-more h ws t side cover syzygy dims w c.index.result.now c.transposed_rank-rank.result c.sum_dimension-whole.result at (c.transposed_rank-rank.ensures t) whole c.if-index-rank.false (c.loop-w.invariant t)

pub returns-then-index-rank : goal.returns-then-index-rank
returns-then-index-rank c = λ t s.
    let h = c.args.table.now.header in
    let ws = c.args.table.now.words in
    let side = c.args.side in
    let cover = c.args.cover.now in
    let syzygy = c.args.syzygy.now in
    let p = c.requires.presentation in
    let dims = c.args.dims.now in
    let w = c.loop-w.w in
    let l : w < length dims = omega (arith, c.loop-w-test.true, c.len-w-end.ensures) in
    let d : w < vertex_count h.quiver = omega (arith, l, c.requires.dims) in
    let whole : c.sum_dimension-whole.result ≡ (across h ws t side syzygy.vertices).dim w = c.sum_dimension-whole.ensures ∙ ap (λ s. sum_dim ws s syzygy.vertices w) c.other.ensures ∙ sym (dim_across h ws t side syzygy.vertices w) in
    let at : c.index.result.now ≡ slice_index dims w = c.index.ensures ∙ get_or_default_zero dims w c.index.result.now l in
    c.if-index-rank.true (sizes-fail h ws t side cover syzygy dims w c.index.result.now c.transposed_rank-rank.result c.sum_dimension-whole.result at (c.transposed_rank-rank.ensures t) whole (s.at w l))

pub returns : goal.returns
returns c = λ t.
    let h = c.args.table.now.header in
    let ws = c.args.table.now.words in
    let side = c.args.side in
    let cover = c.args.cover.now in
    let syzygy = c.args.syzygy.now in
    let p = c.requires.presentation in
    let e : c.loop-w.w ≡ length c.args.dims.now = omega (arith, c.loop-w-test.false, c.loop-w.auto.w-end, c.len-w-end.ensures) in
    subst (HaveSizes h ws t side cover syzygy c.args.dims.now) e (c.loop-w.invariant t)
