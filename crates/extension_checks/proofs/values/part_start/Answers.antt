use Rattle.std.proofs.Common.{◌≡◌, ◌<◌, length, get_or, refl, ◌∙◌, arith}
use Rattle.std.proofs.lemmas.Grind.{get_or_default_zero}
use Rattle.term_rows.specs.SumDims.{sum_dim}
use Rattle.term_rows.proofs.AddedWords.{words_for, part_inside, part_next}
use Rattle.extension_checks.proofs.values.part_start.Goals as goal

pub overflow_add-count : goal.overflow_add-count
overflow_add-count c =
    let h = c.args.table.now.header in
    let ws = c.args.table.now.words in
    let vs = c.args.vertices.now in
    let side = c.args.side in
    let j = c.loop-g.g in
    let l : j < length vs = omega (arith, c.loop-g-test.true, c.requires.part) in
    let v : c.index.result.now ≡ get_or vs j 0 = c.index.ensures ∙ get_or_default_zero vs j c.index.result.now l in
    let A = words_for ws side c.side_in_table-hand.result _ (get_or vs j 0) _ c.args.w c.words_at-places.result.now c.side_in_table-hand.ensures v refl c.words_at-places.ensures in
    let n = part_inside h ws c.requires.table side vs c.args.w j c.loop-g.count (length c.words_at-places.result.now) (sum_dim ws side vs c.args.w) c.words_at-places.result.now l c.loop-g.invariant A refl (omega arith) in
    omega (arith, n, c.requires.small)

pub loop-g-preserved : goal.loop-g-preserved
loop-g-preserved c =
    let h = c.args.table.now.header in
    let ws = c.args.table.now.words in
    let vs = c.args.vertices.now in
    let side = c.args.side in
    let j = c.loop-g.g in
    let l : j < length vs = omega (arith, c.loop-g-test.true, c.requires.part) in
    let v : c.index.result.now ≡ get_or vs j 0 = c.index.ensures ∙ get_or_default_zero vs j c.index.result.now l in
    let A = words_for ws side c.side_in_table-hand.result _ (get_or vs j 0) _ c.args.w c.words_at-places.result.now c.side_in_table-hand.ensures v refl c.words_at-places.ensures in
    part_next h ws c.requires.table side vs c.args.w j c.loop-g.count c.words_at-places.result.now c.loop-g.invariant A
