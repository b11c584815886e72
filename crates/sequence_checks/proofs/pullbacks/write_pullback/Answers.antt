use Rattle.std.proofs.Common.{◌≡◌, ◌<◌, ◌+◌, length, sym, ap, ap₂, ◌∙◌, arith, subst}
use Rattle.std.proofs.lemmas.Grind.{get_or_default_zero}
use Rattle.linear_algebra.specs.BlockFamilies.{total}
use Rattle.module_types.specs.declared.Side.{Side}
use Rattle.module_types.specs.Algebras.{algebra_at, other_side}
use Rattle.module_types.specs.Readings.{dim_at}
use Rattle.module_checks.proofs.HomRank.{dim_at-is}
use Rattle.term_rows.specs.SumDims.{sum_dim}
use Rattle.term_rows.specs.RowSteps.{part_dim}
use Rattle.term_rows.specs.TermCells.{FirstRows}
use Rattle.translate_checks.proofs.Ends.{vertices_at_side}
use Rattle.sequence_checks.specs.Pullbacks.{pulled_back}
use Rattle.sequence_checks.proofs.pullbacks.write_pullback.Goals as goal

pub sum_dimension-a-requires-clause-vertices : goal.sum_dimension-a-requires-clause-vertices
sum_dimension-a-requires-clause-vertices c =
    record { declared = c.requires.presentation.term.declared }

pub sum_dimension-a-requires-clause-small : goal.sum_dimension-a-requires-clause-small
sum_dimension-a-requires-clause-small c =
    let s = c.requires.presentation.syzygy_small.fits c.args.w c.requires.vertex in
    subst (λ (o : Side). sum_dim c.args.table.now.words o c.args.syzygy.now.vertices c.args.w < 4294967296) (sym c.other.ensures) (omega (arith, s))

pub index-requires : goal.index-requires
index-requires c =
    let h = c.args.table.now.header in
    let side = c.args.side in
    let m = c.args.m.now in
    let w = c.args.w in
    let sv = vertices_at_side side h in
    let b : w < length m.dims = (let k = c.requires.m.counted in omega (arith, k, sv, c.requires.vertex)) in
    b

pub write_pulled_generator-at-requires-clause-first : goal.write_pulled_generator-at-requires-clause-first
write_pulled_generator-at-requires-clause-first c =
    c.sum_dimension-a.ensures ∙ ap (λ (o : Side). sum_dim c.args.table.now.words o c.args.syzygy.now.vertices c.args.w) c.other.ensures

pub write_pulled_generator-at-requires-clause-second : goal.write_pulled_generator-at-requires-clause-second
write_pulled_generator-at-requires-clause-second c =
    let h = c.args.table.now.header in
    let side = c.args.side in
    let m = c.args.m.now in
    let w = c.args.w in
    let sv = vertices_at_side side h in
    let b : w < length m.dims = (let k = c.requires.m.counted in omega (arith, k, sv, c.requires.vertex)) in
    let e : c.index.result.now ≡ dim_at (algebra_at side h).quiver m.dims w = c.index.ensures ∙ get_or_default_zero m.dims w c.index.result.now b ∙ sym (dim_at-is (algebra_at side h).quiver m.dims w (omega (arith, sv, c.requires.vertex))) in
    e

pub returns-clause-matrix : goal.returns-clause-matrix
returns-clause-matrix c = λ t.
    let h = c.args.table.now.header in
    let side = c.args.side in
    let m = c.args.m.now in
    let w = c.args.w in
    let sv = vertices_at_side side h in
    let b : w < length m.dims = (let k = c.requires.m.counted in omega (arith, k, sv, c.requires.vertex)) in
    let e : c.index.result.now ≡ dim_at (algebra_at side h).quiver m.dims w = c.index.ensures ∙ get_or_default_zero m.dims w c.index.result.now b ∙ sym (dim_at-is (algebra_at side h).quiver m.dims w (omega (arith, sv, c.requires.vertex))) in
    let ws = c.args.table.now.words in
    let cover = c.args.cover.now in
    let syzygy = c.args.syzygy.now in
    let M = pulled_back h ws t side m cover c.args.functional.now syzygy w in
    let all : c.loop-j.j ≡ length cover = omega (arith, c.loop-j-test.false, c.loop-j.auto.j-end, c.len-j-end.ensures) in
    let a = c.sum_dimension-a.ensures ∙ ap (λ (o : Side). sum_dim ws o syzygy.vertices w) c.other.ensures in
    subst (λ n. FirstRows M n (sum_dim ws (other_side side) cover w) c.loop-j.into) (ap₂ (λ x y. x + y) a e)
    (subst (λ n. FirstRows M (c.sum_dimension-a.result + c.index.result.now) n c.loop-j.into) (c.loop-j.invariant.at ∙ ap (λ j. total j (part_dim ws (other_side side) cover w)) all) (c.loop-j.invariant.rows t))
