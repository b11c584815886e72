use Rattle.std.proofs.Common.{◌≡◌, ◌+◌, ◌*◌, length, get_or, refl, ap, ◌∙◌, subst, arith}
use Rattle.std.specs.Prelude.{slice_index}
use Rattle.std.proofs.lemmas.Grind.{get_or_default_zero}
use Rattle.fp_linear.proofs.Slices.{AreElements-written}
use Rattle.module_types.specs.Algebras.{other_side}
use Rattle.term_rows.specs.SumDims.{side_in_table}
use Rattle.term_rows.specs.TermCells.{FirstRows}
use Rattle.term_rows.proofs.AddedWords.{words_for, places_below, part_next}
use Rattle.term_rows.proofs.TermRowCells.{rows-more}
use Rattle.translate_checks.specs.Across.{transposed_in}
use Rattle.translate_checks.proofs.DotSteps.{written_from_start}
use Rattle.translate_checks.proofs.TransposedRows.{cell_held, at_inside, row_inside}
use Rattle.translate_checks.proofs.transposed.write_generator.Goals as goal

pub write_word_row-requires-clause-word : goal.write_word_row-requires-clause-word
write_word_row-requires-clause-word c = places_below c.args.table.now.words c.side_in_table.result _ c.args.w c.words_at-words.result.now c.words_at-words.ensures c.loop-i.i (omega (arith, c.loop-i-test.true))

pub overflow_add-at : goal.overflow_add-at
overflow_add-at c =
    let h = c.args.table.now.header in
    let ws = c.args.table.now.words in
    let side = c.args.side in
    let other = other_side side in
    let cover = c.args.cover.now in
    let syzygy = c.args.syzygy.now in
    let p = c.requires.presentation in
    let w = c.args.w in
    let j = c.args.j in
    let l = c.requires.generator in
    let v : c.index.result.now ≡ get_or cover j 0 = c.index.ensures ∙ get_or_default_zero cover j c.index.result.now l in
    let A = words_for ws other c.side_in_table.result _ (get_or cover j 0) _ w c.words_at-words.result.now (c.side_in_table.ensures ∙ ap side_in_table c.other.ensures) v refl c.words_at-words.ensures in
    let n = at_inside h ws c.requires.table side cover syzygy p w j c.args.at c.words_at-words.result.now l c.requires.vertex c.requires.at A in
    omega (arith, n, c.loop-i-test.true)

pub overflow_mul-at : goal.overflow_mul-at
overflow_mul-at c =
    let h = c.args.table.now.header in
    let ws = c.args.table.now.words in
    let side = c.args.side in
    let other = other_side side in
    let cover = c.args.cover.now in
    let syzygy = c.args.syzygy.now in
    let p = c.requires.presentation in
    let w = c.args.w in
    let j = c.args.j in
    let l = c.requires.generator in
    let v : c.index.result.now ≡ get_or cover j 0 = c.index.ensures ∙ get_or_default_zero cover j c.index.result.now l in
    let A = words_for ws other c.side_in_table.result _ (get_or cover j 0) _ w c.words_at-words.result.now (c.side_in_table.ensures ∙ ap side_in_table c.other.ensures) v refl c.words_at-words.ensures in
    let n = at_inside h ws c.requires.table side cover syzygy p w j c.args.at c.words_at-words.result.now l c.requires.vertex c.requires.at A in
    let r = row_inside h ws c.requires.table side cover syzygy p w (c.args.at + c.loop-i.i) c.args.columns (length c.args.into.now) (omega (arith, n, c.loop-i-test.true)) c.requires.columns c.requires.vertex c.requires.into in
    omega (arith, r, c.requires.into)

pub copy_part-requires-clause-within : goal.copy_part-requires-clause-within
copy_part-requires-clause-within c =
    let h = c.args.table.now.header in
    let ws = c.args.table.now.words in
    let side = c.args.side in
    let other = other_side side in
    let cover = c.args.cover.now in
    let syzygy = c.args.syzygy.now in
    let p = c.requires.presentation in
    let w = c.args.w in
    let j = c.args.j in
    let l = c.requires.generator in
    let v : c.index.result.now ≡ get_or cover j 0 = c.index.ensures ∙ get_or_default_zero cover j c.index.result.now l in
    let A = words_for ws other c.side_in_table.result _ (get_or cover j 0) _ w c.words_at-words.result.now (c.side_in_table.ensures ∙ ap side_in_table c.other.ensures) v refl c.words_at-words.ensures in
    let n = at_inside h ws c.requires.table side cover syzygy p w j c.args.at c.words_at-words.result.now l c.requires.vertex c.requires.at A in
    let s = p.syzygy_small.fits w c.requires.vertex in
    omega (arith, s, c.requires.columns, c.write_word_row.auto.row, c.loop-i.auto.row, c.requires.row)

pub copy_part-requires-clause-inside : goal.copy_part-requires-clause-inside
copy_part-requires-clause-inside c =
    let h = c.args.table.now.header in
    let ws = c.args.table.now.words in
    let side = c.args.side in
    let other = other_side side in
    let cover = c.args.cover.now in
    let syzygy = c.args.syzygy.now in
    let p = c.requires.presentation in
    let w = c.args.w in
    let j = c.args.j in
    let l = c.requires.generator in
    let v : c.index.result.now ≡ get_or cover j 0 = c.index.ensures ∙ get_or_default_zero cover j c.index.result.now l in
    let A = words_for ws other c.side_in_table.result _ (get_or cover j 0) _ w c.words_at-words.result.now (c.side_in_table.ensures ∙ ap side_in_table c.other.ensures) v refl c.words_at-words.ensures in
    let n = at_inside h ws c.requires.table side cover syzygy p w j c.args.at c.words_at-words.result.now l c.requires.vertex c.requires.at A in
    let r = row_inside h ws c.requires.table side cover syzygy p w (c.args.at + c.loop-i.i) c.args.columns (length c.args.into.now) (omega (arith, n, c.loop-i-test.true)) c.requires.columns c.requires.vertex c.requires.into in
    omega (arith, r, c.loop-i.auto.into)

pub loop-i-preserved : goal.loop-i-preserved
loop-i-preserved c =
    let h = c.args.table.now.header in
    let ws = c.args.table.now.words in
    let side = c.args.side in
    let other = other_side side in
    let cover = c.args.cover.now in
    let syzygy = c.args.syzygy.now in
    let p = c.requires.presentation in
    let w = c.args.w in
    let j = c.args.j in
    let l = c.requires.generator in
    let v : c.index.result.now ≡ get_or cover j 0 = c.index.ensures ∙ get_or_default_zero cover j c.index.result.now l in
    let A = words_for ws other c.side_in_table.result _ (get_or cover j 0) _ w c.words_at-words.result.now (c.side_in_table.ensures ∙ ap side_in_table c.other.ensures) v refl c.words_at-words.ensures in
    let n = at_inside h ws c.requires.table side cover syzygy p w j c.args.at c.words_at-words.result.now l c.requires.vertex c.requires.at A in
    let written = written_from_start c.loop-i.into c.copy_part.new.into c.write_word_row.new.row ((c.args.at + c.loop-i.i) * c.args.columns) c.args.columns c.copy_part.ensures in
    record {
      rows = λ t f.
          let M = transposed_in h ws t side cover syzygy w in
          let e : c.args.at + c.loop-i.i + 1 ≡ c.args.at + (c.loop-i.i + 1) = omega arith in
          subst (λ r. FirstRows M c.args.columns r c.copy_part.new.into) e
          (rows-more M c.args.columns (c.args.at + c.loop-i.i) c.loop-i.into c.copy_part.new.into c.write_word_row.new.row (c.loop-i.invariant.rows t f) written
          (λ z b. cell_held h ws t side cover syzygy p w j c.loop-i.i c.args.at z c.words_at-words.result.now c.write_word_row.new.row l c.requires.at A (omega (arith, c.loop-i-test.true)) (c.write_word_row.ensures.row t)));
      elements = AreElements-written h.field c.loop-i.into c.copy_part.new.into _ c.args.columns (slice_index c.write_word_row.new.row) c.loop-i.invariant.elements written c.write_word_row.ensures.elements.small;
    }

pub overflow_add-result : goal.overflow_add-result
overflow_add-result c =
    let h = c.args.table.now.header in
    let ws = c.args.table.now.words in
    let side = c.args.side in
    let other = other_side side in
    let cover = c.args.cover.now in
    let syzygy = c.args.syzygy.now in
    let p = c.requires.presentation in
    let w = c.args.w in
    let j = c.args.j in
    let l = c.requires.generator in
    let v : c.index.result.now ≡ get_or cover j 0 = c.index.ensures ∙ get_or_default_zero cover j c.index.result.now l in
    let A = words_for ws other c.side_in_table.result _ (get_or cover j 0) _ w c.words_at-words.result.now (c.side_in_table.ensures ∙ ap side_in_table c.other.ensures) v refl c.words_at-words.ensures in
    let n = at_inside h ws c.requires.table side cover syzygy p w j c.args.at c.words_at-words.result.now l c.requires.vertex c.requires.at A in
    omega (arith, n)

pub returns-clause-next : goal.returns-clause-next
returns-clause-next c =
    let h = c.args.table.now.header in
    let ws = c.args.table.now.words in
    let side = c.args.side in
    let other = other_side side in
    let cover = c.args.cover.now in
    let syzygy = c.args.syzygy.now in
    let p = c.requires.presentation in
    let w = c.args.w in
    let j = c.args.j in
    let l = c.requires.generator in
    let v : c.index.result.now ≡ get_or cover j 0 = c.index.ensures ∙ get_or_default_zero cover j c.index.result.now l in
    let A = words_for ws other c.side_in_table.result _ (get_or cover j 0) _ w c.words_at-words.result.now (c.side_in_table.ensures ∙ ap side_in_table c.other.ensures) v refl c.words_at-words.ensures in
    let n = at_inside h ws c.requires.table side cover syzygy p w j c.args.at c.words_at-words.result.now l c.requires.vertex c.requires.at A in
    part_next h ws c.requires.table other cover w j c.args.at c.words_at-words.result.now c.requires.at A
