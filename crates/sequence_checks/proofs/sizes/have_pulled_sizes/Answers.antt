use Rattle.std.proofs.Common.{◌≡◌, ◌<◌, ◌+◌, length, sym, ap, ap₂, ◌∙◌, arith, subst}
use Rattle.std.specs.Prelude.{slice_index}
use Rattle.std.proofs.lemmas.Grind.{get_or_default_zero}
use Rattle.module_types.specs.Algebras.{algebra_at}
use Rattle.module_types.specs.Readings.{dim_at}
use Rattle.module_checks.proofs.HomRank.{dim_at-is}
use Rattle.term_rows.specs.SumDims.{sum_dim}
use Rattle.translate_checks.specs.Steps.{injectives_in}
use Rattle.translate_checks.proofs.AcrossRows.{dim_across}
use Rattle.translate_checks.proofs.Ends.{vertices_at_side}
use Rattle.sequence_checks.specs.Pullbacks.{around_in}
use Rattle.sequence_checks.specs.Sizes.{HavePulledSizes}
use Rattle.sequence_checks.proofs.EndTests.{pulled_sizes-more, pulled_sizes-fail}
use Rattle.sequence_checks.proofs.sizes.have_pulled_sizes.Goals as goal

pub returns-then-index-rank : goal.returns-then-index-rank
returns-then-index-rank c = λ t s.
    let h = c.args.table.now.header in
    let ws = c.args.table.now.words in
    let side = c.args.side in
    let m = c.args.m.now in
    let cover = c.args.cover.now in
    let syzygy = c.args.syzygy.now in
    let phi = c.args.functional.now in
    let dims = c.args.dims.now in
    let w = c.loop-w.w in
    let l : w < length dims = omega (arith, c.loop-w-test.true, c.len-w-end.ensures) in
    let v = vertices_at_side side h in
    let b : w < (algebra_at side h).quiver.vertices = omega (arith, l, c.requires.dims, v) in
    let k : w < length m.dims = (let n = c.requires.m.counted in omega (arith, n, b)) in
    let first : c.sum_dimension-first.result ≡ (injectives_in h ws t side syzygy.vertices).dim w = c.sum_dimension-first.ensures ∙ ap (λ s. sum_dim ws s syzygy.vertices w) c.other.ensures ∙ sym (dim_across h ws t side syzygy.vertices w) in
    let second : c.index.result.now ≡ dim_at (algebra_at side h).quiver m.dims w = c.index.ensures ∙ get_or_default_zero m.dims w c.index.result.now k ∙ sym (dim_at-is (algebra_at side h).quiver m.dims w b) in
    let whole : c.sum_dimension-first.result + c.index.result.now ≡ (around_in h ws t side m cover phi syzygy).dim w = ap₂ (λ x y. x + y) first second in
    let at : c.index-in-loop-w.result.now ≡ slice_index dims w = c.index-in-loop-w.ensures ∙ get_or_default_zero dims w c.index-in-loop-w.result.now l in
    c.if-index-rank.true (pulled_sizes-fail h ws t side m cover phi syzygy dims w c.index-in-loop-w.result.now c.pullback_rank-rank.result (c.sum_dimension-first.result + c.index.result.now) at (c.pullback_rank-rank.ensures t) whole (s.at w l))

pub loop-w-preserved : goal.loop-w-preserved
loop-w-preserved c = λ t.
    let h = c.args.table.now.header in
    let ws = c.args.table.now.words in
    let side = c.args.side in
    let m = c.args.m.now in
    let cover = c.args.cover.now in
    let syzygy = c.args.syzygy.now in
    let phi = c.args.functional.now in
    let dims = c.args.dims.now in
    let w = c.loop-w.w in
    let l : w < length dims = omega (arith, c.loop-w-test.true, c.len-w-end.ensures) in
    let v = vertices_at_side side h in
    let b : w < (algebra_at side h).quiver.vertices = omega (arith, l, c.requires.dims, v) in
    let k : w < length m.dims = (let n = c.requires.m.counted in omega (arith, n, b)) in
    let first : c.sum_dimension-first.result ≡ (injectives_in h ws t side syzygy.vertices).dim w = c.sum_dimension-first.ensures ∙ ap (λ s. sum_dim ws s syzygy.vertices w) c.other.ensures ∙ sym (dim_across h ws t side syzygy.vertices w) in
    let second : c.index.result.now ≡ dim_at (algebra_at side h).quiver m.dims w = c.index.ensures ∙ get_or_default_zero m.dims w c.index.result.now k ∙ sym (dim_at-is (algebra_at side h).quiver m.dims w b) in
    let whole : c.sum_dimension-first.result + c.index.result.now ≡ (around_in h ws t side m cover phi syzygy).dim w = ap₂ (λ x y. x + y) first second in
    let at : c.index-in-loop-w.result.now ≡ slice_index dims w = c.index-in-loop-w.ensures ∙ get_or_default_zero dims w c.index-in-loop-w.result.now l in
    pulled_sizes-more h ws t side m cover phi syzygy dims w c.index-in-loop-w.result.now c.pullback_rank-rank.result (c.sum_dimension-first.result + c.index.result.now) at (c.pullback_rank-rank.ensures t) whole c.if-index-rank.false (c.loop-w.invariant t)

pub returns : goal.returns
returns c = λ t.
    let h = c.args.table.now.header in
    let ws = c.args.table.now.words in
    let side = c.args.side in
    let m = c.args.m.now in
    let cover = c.args.cover.now in
    let syzygy = c.args.syzygy.now in
    let phi = c.args.functional.now in
    let dims = c.args.dims.now in
    subst (HavePulledSizes h ws t side m cover phi syzygy dims) (omega (arith, c.loop-w-test.false, c.loop-w.auto.w-end, c.len-w-end.ensures)) (c.loop-w.invariant t)
