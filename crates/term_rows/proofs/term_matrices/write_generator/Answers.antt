use Rattle.std.proofs.Common.{◌≡◌, ◌<◌, ◌≤◌, ◌+◌, ◌*◌, ℕ, List, [], length, get_or, refl, sym, ap, ◌∙◌, subst, arith}
use Rattle.std.specs.Prelude.{slice_index}
use Rattle.std.proofs.lemmas.List.{get_or_default}
use Rattle.std.proofs.lemmas.Grind.{get_or_default_zero}
use Rattle.fp_linear.proofs.Slices.{AreElements-written}
use Rattle.module_types.specs.declared.TermRows.{TermRows}
use Rattle.claim_conditions.specs.Terms.{vertices_at, term_at}
use Rattle.term_rows.specs.SumDims.{sum_dim, covered_dim}
use Rattle.term_rows.specs.TermCells.{FirstRows, matrix_in, term_target}
use Rattle.term_rows.proofs.AddedWords.{words_for, places_below, part_inside, part_next}
use Rattle.term_rows.proofs.TermRowCells.{term_is, term_vertices, term_counted, term_image, term_cell, rows-more, row_within}
use Rattle.term_rows.proofs.term_matrices.write_generator.Goals as goal

pub write_word_row-requires-clause-word : goal.write_word_row-requires-clause-word
write_word_row-requires-clause-word c = places_below c.args.table.now.words c.side_in_table.result _ c.args.w c.words_at-words.result.now c.words_at-words.ensures c.loop-i.i (omega (arith, c.loop-i-test.true))

pub write_word_row-requires-clause-image : goal.write_word_row-requires-clause-image
write_word_row-requires-clause-image c =
    let h = c.args.table.now.header in
    let ws = c.args.table.now.words in
    let a = c.args.a.now in
    let terms = c.args.terms.now in
    let k = c.args.k in
    let j = c.args.j in
    let w = c.args.w in
    let T = c.requires.table in
    let term = c.index-term.result.now in
    let is = term_is ws h a terms k c.requires.terms term c.index-term.ensures in
    let vs = vertices_at terms k in
    let ve : term.vertices ≡ vs = ap (λ (t : TermRows). t.vertices) is in
    let l : j < length term.vertices = subst (λ (xs : List ℕ). j < length xs) (sym ve) c.requires.generator in
    let R = term_image ws h a terms k c.requires.terms term c.index-term.ensures j c.index-image.result.now l c.index-image.ensures in
    let V = (term_vertices ws h a terms k c.requires.terms term c.index-term.ensures).declared j l in
    let f = c.requires.room.fits (get_or term.vertices j 0) V in
    omega (arith, R.count, f, c.loop-i.auto.row)

pub write_word_row-requires-clause-image_elements : goal.write_word_row-requires-clause-image_elements
write_word_row-requires-clause-image_elements c =
    let h = c.args.table.now.header in
    let ws = c.args.table.now.words in
    let a = c.args.a.now in
    let terms = c.args.terms.now in
    let k = c.args.k in
    let j = c.args.j in
    let w = c.args.w in
    let T = c.requires.table in
    let term = c.index-term.result.now in
    let is = term_is ws h a terms k c.requires.terms term c.index-term.ensures in
    let vs = vertices_at terms k in
    let ve : term.vertices ≡ vs = ap (λ (t : TermRows). t.vertices) is in
    let l : j < length term.vertices = subst (λ (xs : List ℕ). j < length xs) (sym ve) c.requires.generator in
    let R = term_image ws h a terms k c.requires.terms term c.index-term.ensures j c.index-image.result.now l c.index-image.ensures in
    let V = (term_vertices ws h a terms k c.requires.terms term c.index-term.ensures).declared j l in
    record { small = R.small }

pub overflow_add-at : goal.overflow_add-at
overflow_add-at c =
    let h = c.args.table.now.header in
    let ws = c.args.table.now.words in
    let a = c.args.a.now in
    let terms = c.args.terms.now in
    let k = c.args.k in
    let j = c.args.j in
    let w = c.args.w in
    let T = c.requires.table in
    let term = c.index-term.result.now in
    let is = term_is ws h a terms k c.requires.terms term c.index-term.ensures in
    let vs = vertices_at terms k in
    let ve : term.vertices ≡ vs = ap (λ (t : TermRows). t.vertices) is in
    let l : j < length term.vertices = subst (λ (xs : List ℕ). j < length xs) (sym ve) c.requires.generator in
    let v : c.index.result.now ≡ get_or vs j 0 = c.index.ensures ∙ get_or_default_zero term.vertices j c.index.result.now l ∙ ap (λ xs. get_or xs j 0) ve in
    let A = words_for ws a.side c.side_in_table.result _ (get_or vs j 0) _ w c.words_at-words.result.now c.side_in_table.ensures v refl c.words_at-words.ensures in
    let n = part_inside h ws T a.side vs w j c.args.at (length c.words_at-words.result.now) (sum_dim ws a.side vs w) c.words_at-words.result.now c.requires.generator c.requires.at A refl (omega arith) in
    let b : c.args.at + c.loop-i.i < sum_dim ws a.side vs w = omega (arith, n, c.loop-i-test.true) in
    let r = row_within c.args.columns (c.args.at + c.loop-i.i) (sum_dim ws a.side vs w) (length c.args.into.now) b c.requires.into in
    omega (arith, b, c.requires.few)

pub overflow_mul-at : goal.overflow_mul-at
overflow_mul-at c =
    let h = c.args.table.now.header in
    let ws = c.args.table.now.words in
    let a = c.args.a.now in
    let terms = c.args.terms.now in
    let k = c.args.k in
    let j = c.args.j in
    let w = c.args.w in
    let T = c.requires.table in
    let term = c.index-term.result.now in
    let is = term_is ws h a terms k c.requires.terms term c.index-term.ensures in
    let vs = vertices_at terms k in
    let ve : term.vertices ≡ vs = ap (λ (t : TermRows). t.vertices) is in
    let l : j < length term.vertices = subst (λ (xs : List ℕ). j < length xs) (sym ve) c.requires.generator in
    let v : c.index.result.now ≡ get_or vs j 0 = c.index.ensures ∙ get_or_default_zero term.vertices j c.index.result.now l ∙ ap (λ xs. get_or xs j 0) ve in
    let A = words_for ws a.side c.side_in_table.result _ (get_or vs j 0) _ w c.words_at-words.result.now c.side_in_table.ensures v refl c.words_at-words.ensures in
    let n = part_inside h ws T a.side vs w j c.args.at (length c.words_at-words.result.now) (sum_dim ws a.side vs w) c.words_at-words.result.now c.requires.generator c.requires.at A refl (omega arith) in
    let b : c.args.at + c.loop-i.i < sum_dim ws a.side vs w = omega (arith, n, c.loop-i-test.true) in
    let r = row_within c.args.columns (c.args.at + c.loop-i.i) (sum_dim ws a.side vs w) (length c.args.into.now) b c.requires.into in
    omega (arith, r)

pub copy_row-requires-clause-inside : goal.copy_row-requires-clause-inside
copy_row-requires-clause-inside c =
    let h = c.args.table.now.header in
    let ws = c.args.table.now.words in
    let a = c.args.a.now in
    let terms = c.args.terms.now in
    let k = c.args.k in
    let j = c.args.j in
    let w = c.args.w in
    let T = c.requires.table in
    let term = c.index-term.result.now in
    let is = term_is ws h a terms k c.requires.terms term c.index-term.ensures in
    let vs = vertices_at terms k in
    let ve : term.vertices ≡ vs = ap (λ (t : TermRows). t.vertices) is in
    let l : j < length term.vertices = subst (λ (xs : List ℕ). j < length xs) (sym ve) c.requires.generator in
    let v : c.index.result.now ≡ get_or vs j 0 = c.index.ensures ∙ get_or_default_zero term.vertices j c.index.result.now l ∙ ap (λ xs. get_or xs j 0) ve in
    let A = words_for ws a.side c.side_in_table.result _ (get_or vs j 0) _ w c.words_at-words.result.now c.side_in_table.ensures v refl c.words_at-words.ensures in
    let n = part_inside h ws T a.side vs w j c.args.at (length c.words_at-words.result.now) (sum_dim ws a.side vs w) c.words_at-words.result.now c.requires.generator c.requires.at A refl (omega arith) in
    let b : c.args.at + c.loop-i.i < sum_dim ws a.side vs w = omega (arith, n, c.loop-i-test.true) in
    let r = row_within c.args.columns (c.args.at + c.loop-i.i) (sum_dim ws a.side vs w) (length c.args.into.now) b c.requires.into in
    omega (arith, r, c.loop-i.auto.into)

pub loop-i-preserved : goal.loop-i-preserved
loop-i-preserved c =
    let h = c.args.table.now.header in
    let ws = c.args.table.now.words in
    let a = c.args.a.now in
    let terms = c.args.terms.now in
    let k = c.args.k in
    let j = c.args.j in
    let w = c.args.w in
    let T = c.requires.table in
    let term = c.index-term.result.now in
    let is = term_is ws h a terms k c.requires.terms term c.index-term.ensures in
    let vs = vertices_at terms k in
    let ve : term.vertices ≡ vs = ap (λ (t : TermRows). t.vertices) is in
    let l : j < length term.vertices = subst (λ (xs : List ℕ). j < length xs) (sym ve) c.requires.generator in
    let v : c.index.result.now ≡ get_or vs j 0 = c.index.ensures ∙ get_or_default_zero term.vertices j c.index.result.now l ∙ ap (λ xs. get_or xs j 0) ve in
    let A = words_for ws a.side c.side_in_table.result _ (get_or vs j 0) _ w c.words_at-words.result.now c.side_in_table.ensures v refl c.words_at-words.ensures in
    let n = part_inside h ws T a.side vs w j c.args.at (length c.words_at-words.result.now) (sum_dim ws a.side vs w) c.words_at-words.result.now c.requires.generator c.requires.at A refl (omega arith) in
    let R = term_image ws h a terms k c.requires.terms term c.index-term.ensures j c.index-image.result.now l c.index-image.ensures in
    let V = (term_vertices ws h a terms k c.requires.terms term c.index-term.ensures).declared j l in
    let i = c.loop-i.i in
    record {
      rows = λ t f.
          let M = matrix_in h ws t a terms k w in
          let e : c.args.at + i + 1 ≡ c.args.at + (i + 1) = omega arith in
          let same : c.index-image.result.now ≡ get_or (term_at terms k).images j [] = c.index-image.ensures ∙ get_or_default term.images j c.index-image.result.now [] (let tc = term_counted ws h a terms k c.requires.terms term c.index-term.ensures in omega (arith, tc, l)) ∙ ap (λ (t : TermRows). get_or t.images j []) is in
          subst (λ r. FirstRows M c.args.columns r c.copy_row.new.into) e
          (rows-more M c.args.columns (c.args.at + i) c.loop-i.into c.copy_row.new.into c.write_word_row.new.row (c.loop-i.invariant.rows t f) c.copy_row.ensures
          (λ z b. (c.write_word_row.ensures.row t).at z
          ∙ sym (term_cell h ws t a terms k c.requires.terms w j i z c.words_at-words.result.now c.index-image.result.now c.requires.generator A (omega (arith, c.loop-i-test.true)) same)
          ∙ ap (λ r. M.at (r + i) z) (sym c.requires.at)));
      elements = AreElements-written h.field c.loop-i.into c.copy_row.new.into _ c.args.columns (slice_index c.write_word_row.new.row) c.loop-i.invariant.elements c.copy_row.ensures c.write_word_row.ensures.elements.small;
    }

pub overflow_add-result : goal.overflow_add-result
overflow_add-result c =
    let h = c.args.table.now.header in
    let ws = c.args.table.now.words in
    let a = c.args.a.now in
    let terms = c.args.terms.now in
    let k = c.args.k in
    let j = c.args.j in
    let w = c.args.w in
    let T = c.requires.table in
    let term = c.index-term.result.now in
    let is = term_is ws h a terms k c.requires.terms term c.index-term.ensures in
    let vs = vertices_at terms k in
    let ve : term.vertices ≡ vs = ap (λ (t : TermRows). t.vertices) is in
    let l : j < length term.vertices = subst (λ (xs : List ℕ). j < length xs) (sym ve) c.requires.generator in
    let v : c.index.result.now ≡ get_or vs j 0 = c.index.ensures ∙ get_or_default_zero term.vertices j c.index.result.now l ∙ ap (λ xs. get_or xs j 0) ve in
    let A = words_for ws a.side c.side_in_table.result _ (get_or vs j 0) _ w c.words_at-words.result.now c.side_in_table.ensures v refl c.words_at-words.ensures in
    let n = part_inside h ws T a.side vs w j c.args.at (length c.words_at-words.result.now) (sum_dim ws a.side vs w) c.words_at-words.result.now c.requires.generator c.requires.at A refl (omega arith) in
    omega (arith, n, c.requires.few)

pub returns-clause-next : goal.returns-clause-next
returns-clause-next c =
    let h = c.args.table.now.header in
    let ws = c.args.table.now.words in
    let a = c.args.a.now in
    let terms = c.args.terms.now in
    let k = c.args.k in
    let j = c.args.j in
    let w = c.args.w in
    let T = c.requires.table in
    let term = c.index-term.result.now in
    let is = term_is ws h a terms k c.requires.terms term c.index-term.ensures in
    let vs = vertices_at terms k in
    let ve : term.vertices ≡ vs = ap (λ (t : TermRows). t.vertices) is in
    let l : j < length term.vertices = subst (λ (xs : List ℕ). j < length xs) (sym ve) c.requires.generator in
    let v : c.index.result.now ≡ get_or vs j 0 = c.index.ensures ∙ get_or_default_zero term.vertices j c.index.result.now l ∙ ap (λ xs. get_or xs j 0) ve in
    let A = words_for ws a.side c.side_in_table.result _ (get_or vs j 0) _ w c.words_at-words.result.now c.side_in_table.ensures v refl c.words_at-words.ensures in
    let n = part_inside h ws T a.side vs w j c.args.at (length c.words_at-words.result.now) (sum_dim ws a.side vs w) c.words_at-words.result.now c.requires.generator c.requires.at A refl (omega arith) in
    part_next h ws T a.side vs w j c.args.at c.words_at-words.result.now c.requires.at A
