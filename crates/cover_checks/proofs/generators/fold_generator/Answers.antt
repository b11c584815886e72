use Rattle.std.proofs.Common.{ℕ, List, suc, [], ◌≡◌, ◌<◌, ◌≤◌, length, sym, ap, ◌∙◌, arith, subst}
use Rattle.std.proofs.lemmas.Grind.{get_or_default_zero}
use Rattle.std.proofs.lemmas.List.{get_or_default}
use Rattle.std.specs.Prelude.{slice_index_or}
use Rattle.linear_algebra.specs.Field.{Gf}
use Rattle.linear_algebra.specs.Rows.{IsRow}
use Rattle.fp_linear.specs.Slices.{AreElements, IsWritten, copied}
use Rattle.module_types.specs.declared.TermRows.{TermRows}
use Rattle.module_types.specs.Readings.{read}
use Rattle.module_types.specs.TermMatrices.{vertex}
use Rattle.claim_conditions.specs.Terms.{term_at}
use Rattle.term_rows.specs.SumDims.{covered_dim}
use Rattle.term_rows.proofs.TermRowCells.{term_is, term_counted}
use Rattle.term_rows.proofs.WordRows.{covered_is}
use Rattle.resolution_checks.specs.Steps.{words_of_side}
use Rattle.resolution_checks.proofs.CompositesAt.{small_at}
use Rattle.cover_checks.proofs.GeneratorFolds.{elsewhere, generator_answer}
use Rattle.cover_checks.proofs.generators.fold_generator.Goals as goal

pub returns-then-vertex-w-clause-folded : goal.returns-then-vertex-w-clause-folded
returns-then-vertex-w-clause-folded c = λ t B.
    let h = c.args.table.now.header in
    let ws = c.args.table.now.words in
    let a = c.args.a.now in
    let terms = c.args.terms.now in
    let k = c.args.k in
    let j = c.args.j in
    let w = c.args.w in
    let term = c.index-term.result.now in
    let is = term_is ws h a terms k c.requires.terms term c.index-term.ensures in
    let n = ap (λ (t : TermRows). length t.vertices) is in
    let l : j < length term.vertices = omega (arith, n, c.requires.generator) in
    let ve : c.index-vertex.result.now ≡ vertex (term_at terms k) j = c.index-vertex.ensures ∙ get_or_default_zero term.vertices j c.index-vertex.result.now l ∙ ap (λ (t : TermRows). vertex t j) is in
    elsewhere (words_of_side h ws t a terms) (read h a) terms k w c.args.field c.args.size c.args.rows j c.args.entries.now (λ e. c.if-vertex-w.true (ve ∙ e))

pub copy_part-requires-clause-at_inside : goal.copy_part-requires-clause-at_inside
copy_part-requires-clause-at_inside c =
    let h = c.args.table.now.header in
    let ws = c.args.table.now.words in
    let a = c.args.a.now in
    let terms = c.args.terms.now in
    let k = c.args.k in
    let j = c.args.j in
    let w = c.args.w in
    let term = c.index-term.result.now in
    let is = term_is ws h a terms k c.requires.terms term c.index-term.ensures in
    let n = ap (λ (t : TermRows). length t.vertices) is in
    let l : j < length term.vertices = omega (arith, n, c.requires.generator) in
    let ve : c.index-vertex.result.now ≡ vertex (term_at terms k) j = c.index-vertex.ensures ∙ get_or_default_zero term.vertices j c.index-vertex.result.now l ∙ ap (λ (t : TermRows). vertex t j) is in
    let e : vertex (term_at terms k) j ≡ w = sym ve ∙ c.if-vertex-w.false in
    let li : j < length term.images = omega (arith, l, term_counted ws h a terms k c.requires.terms term c.index-term.ensures) in
    let ie : c.index-image.result.now ≡ slice_index_or (term_at terms k).images j [] = c.index-image.ensures ∙ get_or_default term.images j c.index-image.result.now [] li ∙ ap (λ (t : TermRows). slice_index_or t.images j []) is in
    let R : IsRow h.field (covered_dim ws h a terms k (vertex (term_at terms k) j)) (slice_index_or (term_at terms k).images j []) = (c.requires.terms.each k (omega arith)).each j c.requires.generator in
    let Ri : IsRow h.field (covered_dim ws h a terms k (vertex (term_at terms k) j)) c.index-image.result.now = subst (IsRow h.field (covered_dim ws h a terms k (vertex (term_at terms k) j))) (sym ie) R in
    let s = small_at ws h a terms (suc k) k w (omega arith) c.requires.vertex c.requires.small in
    let d = ap (covered_dim ws h a terms k) e in
    let long : length c.index-image.result.now ≤ 512 = omega (arith, Ri.count, d, s) in
    omega (arith, long, c.len.ensures, c.requires.row, c.clear.auto.entries)

pub fold_coordinates-requires-clause-row_elements : goal.fold_coordinates-requires-clause-row_elements
fold_coordinates-requires-clause-row_elements c =
    let h = c.args.table.now.header in
    let ws = c.args.table.now.words in
    let a = c.args.a.now in
    let terms = c.args.terms.now in
    let k = c.args.k in
    let j = c.args.j in
    let w = c.args.w in
    let term = c.index-term.result.now in
    let is = term_is ws h a terms k c.requires.terms term c.index-term.ensures in
    let n = ap (λ (t : TermRows). length t.vertices) is in
    let l : j < length term.vertices = omega (arith, n, c.requires.generator) in
    let ve : c.index-vertex.result.now ≡ vertex (term_at terms k) j = c.index-vertex.ensures ∙ get_or_default_zero term.vertices j c.index-vertex.result.now l ∙ ap (λ (t : TermRows). vertex t j) is in
    let e : vertex (term_at terms k) j ≡ w = sym ve ∙ c.if-vertex-w.false in
    let li : j < length term.images = omega (arith, l, term_counted ws h a terms k c.requires.terms term c.index-term.ensures) in
    let ie : c.index-image.result.now ≡ slice_index_or (term_at terms k).images j [] = c.index-image.ensures ∙ get_or_default term.images j c.index-image.result.now [] li ∙ ap (λ (t : TermRows). slice_index_or t.images j []) is in
    let R : IsRow h.field (covered_dim ws h a terms k (vertex (term_at terms k) j)) (slice_index_or (term_at terms k).images j []) = (c.requires.terms.each k (omega arith)).each j c.requires.generator in
    let Ri : IsRow h.field (covered_dim ws h a terms k (vertex (term_at terms k) j)) c.index-image.result.now = subst (IsRow h.field (covered_dim ws h a terms k (vertex (term_at terms k) j))) (sym ie) R in
    let small : AreElements c.args.field c.index-image.result.now = subst (λ (q : Gf). AreElements q c.index-image.result.now) (sym c.requires.field) (record { small = Ri.small }) in
    let same = subst (AreElements c.args.field) (sym c.as_slice.ensures) small in
    c.copy_part.ensures.elements c.args.field same (c.clear.ensures.elements c.args.field)

pub returns-clause-folded : goal.returns-clause-folded
returns-clause-folded c = λ t B.
    let h = c.args.table.now.header in
    let ws = c.args.table.now.words in
    let a = c.args.a.now in
    let terms = c.args.terms.now in
    let k = c.args.k in
    let j = c.args.j in
    let w = c.args.w in
    let term = c.index-term.result.now in
    let is = term_is ws h a terms k c.requires.terms term c.index-term.ensures in
    let n = ap (λ (t : TermRows). length t.vertices) is in
    let l : j < length term.vertices = omega (arith, n, c.requires.generator) in
    let ve : c.index-vertex.result.now ≡ vertex (term_at terms k) j = c.index-vertex.ensures ∙ get_or_default_zero term.vertices j c.index-vertex.result.now l ∙ ap (λ (t : TermRows). vertex t j) is in
    let e : vertex (term_at terms k) j ≡ w = sym ve ∙ c.if-vertex-w.false in
    let li : j < length term.images = omega (arith, l, term_counted ws h a terms k c.requires.terms term c.index-term.ensures) in
    let ie : c.index-image.result.now ≡ slice_index_or (term_at terms k).images j [] = c.index-image.ensures ∙ get_or_default term.images j c.index-image.result.now [] li ∙ ap (λ (t : TermRows). slice_index_or t.images j []) is in
    let R : IsRow h.field (covered_dim ws h a terms k (vertex (term_at terms k) j)) (slice_index_or (term_at terms k).images j []) = (c.requires.terms.each k (omega arith)).each j c.requires.generator in
    let Ri : IsRow h.field (covered_dim ws h a terms k (vertex (term_at terms k) j)) c.index-image.result.now = subst (IsRow h.field (covered_dim ws h a terms k (vertex (term_at terms k) j))) (sym ie) R in
    let shape = subst (λ n. IsRow h.field n (slice_index_or (term_at terms k).images j [])) (sym (covered_is h ws t a terms k (vertex (term_at terms k) j))) R in
    let written = subst (λ (xs : List ℕ). IsWritten c.clear.new.entries c.copy_part.new.target 0 (length c.index-image.result.now) (copied 0 xs)) c.as_slice.ensures
    (subst (λ n. IsWritten c.clear.new.entries c.copy_part.new.target 0 n (copied 0 c.as_slice.result.now)) c.len.ensures c.copy_part.ensures.written) in
    generator_answer (words_of_side h ws t a terms) (read h a) terms k w j c.requires.generator e c.args.size c.args.width c.args.basis.now c.args.places.now B c.index-image.result.now c.clear.new.entries c.copy_part.new.target
    c.fold_coordinates.new.coordinates shape ie written c.fold_coordinates.ensures.taken c.args.field c.requires.field c.args.rows c.args.entries.now c.fold_coordinates.new.entries c.fold_coordinates.result c.fold_coordinates.ensures.folded
