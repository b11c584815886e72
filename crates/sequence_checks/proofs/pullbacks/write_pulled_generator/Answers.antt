use Rattle.std.proofs.Common.{◌≡◌, ◌+◌, ◌*◌, length, get_or, refl, sym, ap, ◌∙◌, subst, arith}
use Rattle.std.specs.Prelude.{slice_index}
use Rattle.std.proofs.lemmas.Grind.{get_or_default_zero}
use Rattle.fp_linear.proofs.Slices.{AreElements-written}
use Rattle.module_types.specs.Algebras.{algebra_at, other_side}
use Rattle.module_checks.proofs.Walks.{dim_within}
use Rattle.term_rows.specs.SumDims.{side_in_table}
use Rattle.term_rows.specs.TermCells.{FirstRows}
use Rattle.term_rows.proofs.AddedWords.{words_for, places_below, part_next}
use Rattle.term_rows.proofs.TermRowCells.{rows-more}
use Rattle.translate_checks.proofs.AcrossRows.{dim_across}
use Rattle.translate_checks.proofs.DotSteps.{written_from_start}
use Rattle.translate_checks.proofs.TransposedRows.{at_inside}
use Rattle.sequence_checks.specs.Pullbacks.{pulled_back}
use Rattle.sequence_checks.proofs.PulledRows.{pulled_cell}
use Rattle.sequence_checks.proofs.PartRows.{pulled_inside}
use Rattle.sequence_checks.proofs.pullbacks.write_pulled_generator.Goals as goal

pub write_pulled_row-requires-clause-word : goal.write_pulled_row-requires-clause-word
write_pulled_row-requires-clause-word c =
    places_below c.args.table.now.words c.side_in_table.result _ c.args.w c.words_at-words.result.now c.words_at-words.ensures c.loop-i.i (omega (arith, c.loop-i-test.true))

pub write_pulled_row-requires-clause-first : goal.write_pulled_row-requires-clause-first
write_pulled_row-requires-clause-first c =
    let h = c.args.table.now.header in
    let ws = c.args.table.now.words in
    let side = c.args.side in
    let other = other_side side in
    let m = c.args.m.now in
    let cover = c.args.cover.now in
    let syzygy = c.args.syzygy.now in
    let p = c.requires.presentation in
    let w = c.args.w in
    let j = c.args.j in
    let l = c.requires.part in
    let v : c.index.result.now ≡ get_or cover j 0 = c.index.ensures ∙ get_or_default_zero cover j c.index.result.now l in
    let A = words_for ws other c.side_in_table.result _ (get_or cover j 0) _ w c.words_at-words.result.now (c.side_in_table.ensures ∙ ap side_in_table c.other.ensures) v refl c.words_at-words.ensures in
    let n = at_inside h ws c.requires.table side cover syzygy p w j c.args.at c.words_at-words.result.now l c.requires.vertex c.requires.at A in
    let s = p.syzygy_small.fits w c.requires.vertex in
    let d = dim_within (algebra_at side h).quiver m.dims w in
    omega (arith, s, c.requires.first)

pub write_pulled_row-requires-clause-second : goal.write_pulled_row-requires-clause-second
write_pulled_row-requires-clause-second c =
    let h = c.args.table.now.header in
    let ws = c.args.table.now.words in
    let side = c.args.side in
    let other = other_side side in
    let m = c.args.m.now in
    let cover = c.args.cover.now in
    let syzygy = c.args.syzygy.now in
    let p = c.requires.presentation in
    let w = c.args.w in
    let j = c.args.j in
    let l = c.requires.part in
    let v : c.index.result.now ≡ get_or cover j 0 = c.index.ensures ∙ get_or_default_zero cover j c.index.result.now l in
    let A = words_for ws other c.side_in_table.result _ (get_or cover j 0) _ w c.words_at-words.result.now (c.side_in_table.ensures ∙ ap side_in_table c.other.ensures) v refl c.words_at-words.ensures in
    let n = at_inside h ws c.requires.table side cover syzygy p w j c.args.at c.words_at-words.result.now l c.requires.vertex c.requires.at A in
    let s = p.syzygy_small.fits w c.requires.vertex in
    let d = dim_within (algebra_at side h).quiver m.dims w in
    omega (arith, d, c.requires.second, c.requires.m.small)

pub overflow_add-width : goal.overflow_add-width
overflow_add-width c =
    let h = c.args.table.now.header in
    let ws = c.args.table.now.words in
    let side = c.args.side in
    let other = other_side side in
    let m = c.args.m.now in
    let cover = c.args.cover.now in
    let syzygy = c.args.syzygy.now in
    let p = c.requires.presentation in
    let w = c.args.w in
    let j = c.args.j in
    let l = c.requires.part in
    let v : c.index.result.now ≡ get_or cover j 0 = c.index.ensures ∙ get_or_default_zero cover j c.index.result.now l in
    let A = words_for ws other c.side_in_table.result _ (get_or cover j 0) _ w c.words_at-words.result.now (c.side_in_table.ensures ∙ ap side_in_table c.other.ensures) v refl c.words_at-words.ensures in
    let n = at_inside h ws c.requires.table side cover syzygy p w j c.args.at c.words_at-words.result.now l c.requires.vertex c.requires.at A in
    let s = p.syzygy_small.fits w c.requires.vertex in
    let d = dim_within (algebra_at side h).quiver m.dims w in
    omega (arith, s, d, c.requires.first, c.requires.second, c.requires.m.small)

pub overflow_add-at : goal.overflow_add-at
overflow_add-at c =
    let h = c.args.table.now.header in
    let ws = c.args.table.now.words in
    let side = c.args.side in
    let other = other_side side in
    let m = c.args.m.now in
    let cover = c.args.cover.now in
    let syzygy = c.args.syzygy.now in
    let p = c.requires.presentation in
    let w = c.args.w in
    let j = c.args.j in
    let l = c.requires.part in
    let v : c.index.result.now ≡ get_or cover j 0 = c.index.ensures ∙ get_or_default_zero cover j c.index.result.now l in
    let A = words_for ws other c.side_in_table.result _ (get_or cover j 0) _ w c.words_at-words.result.now (c.side_in_table.ensures ∙ ap side_in_table c.other.ensures) v refl c.words_at-words.ensures in
    let n = at_inside h ws c.requires.table side cover syzygy p w j c.args.at c.words_at-words.result.now l c.requires.vertex c.requires.at A in
    let s = p.syzygy_small.fits w c.requires.vertex in
    let d = dim_within (algebra_at side h).quiver m.dims w in
    omega (arith, n, c.loop-i-test.true)

pub overflow_mul-at : goal.overflow_mul-at
overflow_mul-at c =
    let h = c.args.table.now.header in
    let ws = c.args.table.now.words in
    let side = c.args.side in
    let other = other_side side in
    let m = c.args.m.now in
    let cover = c.args.cover.now in
    let syzygy = c.args.syzygy.now in
    let p = c.requires.presentation in
    let w = c.args.w in
    let j = c.args.j in
    let l = c.requires.part in
    let v : c.index.result.now ≡ get_or cover j 0 = c.index.ensures ∙ get_or_default_zero cover j c.index.result.now l in
    let A = words_for ws other c.side_in_table.result _ (get_or cover j 0) _ w c.words_at-words.result.now (c.side_in_table.ensures ∙ ap side_in_table c.other.ensures) v refl c.words_at-words.ensures in
    let n = at_inside h ws c.requires.table side cover syzygy p w j c.args.at c.words_at-words.result.now l c.requires.vertex c.requires.at A in
    let s = p.syzygy_small.fits w c.requires.vertex in
    let d = dim_within (algebra_at side h).quiver m.dims w in
    let r = pulled_inside (c.args.at + c.loop-i.i) (c.args.a + c.args.b) (length c.args.into.now) (omega (arith, n, c.loop-i-test.true)) (omega (arith, s, d, c.requires.first, c.requires.second, c.requires.m.small)) c.requires.into in
    omega (arith, r, c.requires.into)

pub copy_part-requires-clause-within : goal.copy_part-requires-clause-within
copy_part-requires-clause-within c =
    let h = c.args.table.now.header in
    let ws = c.args.table.now.words in
    let side = c.args.side in
    let other = other_side side in
    let m = c.args.m.now in
    let cover = c.args.cover.now in
    let syzygy = c.args.syzygy.now in
    let p = c.requires.presentation in
    let w = c.args.w in
    let j = c.args.j in
    let l = c.requires.part in
    let v : c.index.result.now ≡ get_or cover j 0 = c.index.ensures ∙ get_or_default_zero cover j c.index.result.now l in
    let A = words_for ws other c.side_in_table.result _ (get_or cover j 0) _ w c.words_at-words.result.now (c.side_in_table.ensures ∙ ap side_in_table c.other.ensures) v refl c.words_at-words.ensures in
    let n = at_inside h ws c.requires.table side cover syzygy p w j c.args.at c.words_at-words.result.now l c.requires.vertex c.requires.at A in
    let s = p.syzygy_small.fits w c.requires.vertex in
    let d = dim_within (algebra_at side h).quiver m.dims w in
    omega (arith, s, d, c.requires.first, c.requires.second, c.requires.m.small, c.write_pulled_row.auto.line, c.loop-i.auto.line, c.requires.line)

pub copy_part-requires-clause-inside : goal.copy_part-requires-clause-inside
copy_part-requires-clause-inside c =
    let h = c.args.table.now.header in
    let ws = c.args.table.now.words in
    let side = c.args.side in
    let other = other_side side in
    let m = c.args.m.now in
    let cover = c.args.cover.now in
    let syzygy = c.args.syzygy.now in
    let p = c.requires.presentation in
    let w = c.args.w in
    let j = c.args.j in
    let l = c.requires.part in
    let v : c.index.result.now ≡ get_or cover j 0 = c.index.ensures ∙ get_or_default_zero cover j c.index.result.now l in
    let A = words_for ws other c.side_in_table.result _ (get_or cover j 0) _ w c.words_at-words.result.now (c.side_in_table.ensures ∙ ap side_in_table c.other.ensures) v refl c.words_at-words.ensures in
    let n = at_inside h ws c.requires.table side cover syzygy p w j c.args.at c.words_at-words.result.now l c.requires.vertex c.requires.at A in
    let s = p.syzygy_small.fits w c.requires.vertex in
    let d = dim_within (algebra_at side h).quiver m.dims w in
    let r = pulled_inside (c.args.at + c.loop-i.i) (c.args.a + c.args.b) (length c.args.into.now) (omega (arith, n, c.loop-i-test.true)) (omega (arith, s, d, c.requires.first, c.requires.second, c.requires.m.small)) c.requires.into in
    omega (arith, r, c.loop-i.auto.into)

pub loop-i-preserved : goal.loop-i-preserved
loop-i-preserved c =
    let h = c.args.table.now.header in
    let ws = c.args.table.now.words in
    let side = c.args.side in
    let other = other_side side in
    let m = c.args.m.now in
    let cover = c.args.cover.now in
    let syzygy = c.args.syzygy.now in
    let p = c.requires.presentation in
    let w = c.args.w in
    let j = c.args.j in
    let l = c.requires.part in
    let v : c.index.result.now ≡ get_or cover j 0 = c.index.ensures ∙ get_or_default_zero cover j c.index.result.now l in
    let A = words_for ws other c.side_in_table.result _ (get_or cover j 0) _ w c.words_at-words.result.now (c.side_in_table.ensures ∙ ap side_in_table c.other.ensures) v refl c.words_at-words.ensures in
    let n = at_inside h ws c.requires.table side cover syzygy p w j c.args.at c.words_at-words.result.now l c.requires.vertex c.requires.at A in
    let s = p.syzygy_small.fits w c.requires.vertex in
    let d = dim_within (algebra_at side h).quiver m.dims w in
    let i = c.loop-i.i in
    let width = c.args.a + c.args.b in
    let written = written_from_start c.loop-i.into c.copy_part.new.into c.write_pulled_row.new.line ((c.args.at + i) * width) width c.copy_part.ensures in
    record {
      rows = λ t f.
          let M = pulled_back h ws t side m cover c.args.functional.now syzygy w in
          let e : c.args.at + i + 1 ≡ c.args.at + (i + 1) = omega arith in
          subst (λ r. FirstRows M width r c.copy_part.new.into) e
          (rows-more M width (c.args.at + i) c.loop-i.into c.copy_part.new.into c.write_pulled_row.new.line (c.loop-i.invariant.rows t f) written
          (λ z b. pulled_cell h ws t side m cover c.args.functional.now syzygy p w j i c.args.at c.args.a c.args.b z c.words_at-words.result.now c.write_pulled_row.new.line l c.requires.at A (omega (arith, c.loop-i-test.true))
          (c.requires.first ∙ sym (dim_across h ws t side syzygy.vertices w)) (c.write_pulled_row.ensures.row t) b));
      elements = AreElements-written h.field c.loop-i.into c.copy_part.new.into _ width (slice_index c.write_pulled_row.new.line) c.loop-i.invariant.elements written c.write_pulled_row.ensures.elements.small;
    }

pub overflow_add-result : goal.overflow_add-result
overflow_add-result c =
    let h = c.args.table.now.header in
    let ws = c.args.table.now.words in
    let side = c.args.side in
    let other = other_side side in
    let m = c.args.m.now in
    let cover = c.args.cover.now in
    let syzygy = c.args.syzygy.now in
    let p = c.requires.presentation in
    let w = c.args.w in
    let j = c.args.j in
    let l = c.requires.part in
    let v : c.index.result.now ≡ get_or cover j 0 = c.index.ensures ∙ get_or_default_zero cover j c.index.result.now l in
    let A = words_for ws other c.side_in_table.result _ (get_or cover j 0) _ w c.words_at-words.result.now (c.side_in_table.ensures ∙ ap side_in_table c.other.ensures) v refl c.words_at-words.ensures in
    let n = at_inside h ws c.requires.table side cover syzygy p w j c.args.at c.words_at-words.result.now l c.requires.vertex c.requires.at A in
    let s = p.syzygy_small.fits w c.requires.vertex in
    let d = dim_within (algebra_at side h).quiver m.dims w in
    omega (arith, n)

pub returns-clause-next : goal.returns-clause-next
returns-clause-next c =
    let h = c.args.table.now.header in
    let ws = c.args.table.now.words in
    let side = c.args.side in
    let other = other_side side in
    let m = c.args.m.now in
    let cover = c.args.cover.now in
    let syzygy = c.args.syzygy.now in
    let p = c.requires.presentation in
    let w = c.args.w in
    let j = c.args.j in
    let l = c.requires.part in
    let v : c.index.result.now ≡ get_or cover j 0 = c.index.ensures ∙ get_or_default_zero cover j c.index.result.now l in
    let A = words_for ws other c.side_in_table.result _ (get_or cover j 0) _ w c.words_at-words.result.now (c.side_in_table.ensures ∙ ap side_in_table c.other.ensures) v refl c.words_at-words.ensures in
    let n = at_inside h ws c.requires.table side cover syzygy p w j c.args.at c.words_at-words.result.now l c.requires.vertex c.requires.at A in
    let s = p.syzygy_small.fits w c.requires.vertex in
    let d = dim_within (algebra_at side h).quiver m.dims w in
    part_next h ws c.requires.table other cover w j c.args.at c.words_at-words.result.now c.requires.at A
