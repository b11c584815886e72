use Rattle.std.proofs.Common.{◌≡◌, ◌<◌, length, sym, ap, ◌∙◌, arith, subst}
use Rattle.linear_algebra.specs.BlockFamilies.{total}
use Rattle.module_types.specs.declared.Side.{Side}
use Rattle.module_types.specs.Algebras.{other_side}
use Rattle.term_rows.specs.SumDims.{sum_dim}
use Rattle.term_rows.specs.RowSteps.{part_dim}
use Rattle.term_rows.specs.TermCells.{FirstRows}
use Rattle.translate_checks.specs.Across.{transposed_in}
use Rattle.translate_checks.proofs.transposed.write_transposed.Goals as goal

pub sum_dimension-columns-requires-clause-vertices : goal.sum_dimension-columns-requires-clause-vertices
sum_dimension-columns-requires-clause-vertices c = record { declared = c.requires.presentation.term.declared }

pub sum_dimension-columns-requires-clause-small : goal.sum_dimension-columns-requires-clause-small
sum_dimension-columns-requires-clause-small c =
    let s = c.requires.presentation.syzygy_small.fits c.args.w c.requires.vertex in
    subst (λ (o : Side). sum_dim c.args.table.now.words o c.args.syzygy.now.vertices c.args.w < 4294967296) (sym c.other.ensures) (omega (arith, s))

pub write_generator-at-requires-clause-columns : goal.write_generator-at-requires-clause-columns
write_generator-at-requires-clause-columns c = c.sum_dimension-columns.ensures ∙ ap (λ (o : Side). sum_dim c.args.table.now.words o c.args.syzygy.now.vertices c.args.w) c.other.ensures

pub returns-clause-matrix : goal.returns-clause-matrix
returns-clause-matrix c = λ t.
    let h = c.args.table.now.header in
    let ws = c.args.table.now.words in
    let side = c.args.side in
    let cover = c.args.cover.now in
    let syzygy = c.args.syzygy.now in
    let w = c.args.w in
    let M = transposed_in h ws t side cover syzygy w in
    let all : c.loop-j.j ≡ length cover = omega (arith, c.loop-j-test.false, c.loop-j.auto.j-end, c.len-j-end.ensures) in
    let columns = c.sum_dimension-columns.ensures ∙ ap (λ (o : Side). sum_dim ws o syzygy.vertices w) c.other.ensures in
    subst (λ n. FirstRows M n (sum_dim ws (other_side side) cover w) c.loop-j.into) columns
    (subst (λ n. FirstRows M c.sum_dimension-columns.result n c.loop-j.into) (c.loop-j.invariant.at ∙ ap (λ j. total j (part_dim ws (other_side side) cover w)) all) (c.loop-j.invariant.rows t))
