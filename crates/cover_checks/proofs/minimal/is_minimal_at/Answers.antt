use Rattle.std.proofs.Common.{suc, ◌≡◌, ◌≤◌, ◌+◌, ◌*◌, length, sym, ap, ◌∙◌, arith, subst}
use Rattle.std.proofs.lemmas.List.{length-take-le}
use Rattle.linear_algebra.specs.Field.{Gf}
use Rattle.fp_linear.specs.Slices.{AreElements}
use Rattle.path_algebra.specs.declared.Header.{Header}
use Rattle.module_types.specs.Readings.{read}
use Rattle.resolution_checks.specs.Steps.{words_of_side}
use Rattle.resolution_checks.proofs.CompositesAt.{small_at}
use Rattle.cover_checks.proofs.CoveredBases.{product_inside}
use Rattle.cover_checks.proofs.MinimalTerms.{rows_inside, places_inside, basis_at, fewer_terms, fewer_small}
use Rattle.cover_checks.proofs.TermRanks.{minimal_at, at_minimal}
use Rattle.cover_checks.proofs.minimal.is_minimal_at.Goals as goal

pub target_dimension-width-requires-clause-small : goal.target_dimension-width-requires-clause-small
target_dimension-width-requires-clause-small c =
    let s = small_at c.args.table.now.words c.args.table.now.header c.args.a.now c.args.terms.now (suc c.args.k) c.args.k c.args.w (omega arith) c.requires.vertex c.requires.small in
    omega (arith, s)

pub write_covered-size-requires-clause-terms : goal.write_covered-size-requires-clause-terms
write_covered-size-requires-clause-terms c =
    fewer_terms c.args.table.now.words c.args.table.now.header c.args.a.now c.args.terms.now (suc c.args.k) c.args.k (omega arith) c.requires.terms

pub write_covered-size-requires-clause-small : goal.write_covered-size-requires-clause-small
write_covered-size-requires-clause-small c =
    fewer_small c.args.table.now.words c.args.table.now.header c.args.a.now c.args.terms.now (suc c.args.k) c.args.k (omega arith) c.requires.small

pub slice_bounds-folded-end : goal.slice_bounds-folded-end
slice_bounds-folded-end c =
    let h = c.args.table.now.header in
    let ws = c.args.table.now.words in
    let a = c.args.a.now in
    let terms = c.args.terms.now in
    let k = c.args.k in
    let w = c.args.w in
    let fe : c.header.result.now.field ≡ h.field = ap (λ (h : Header). h.field) c.header.ensures.header in
    let s = small_at ws h a terms (suc k) k w (omega arith) c.requires.vertex c.requires.small in
    let narrow : c.target_dimension-width.result ≤ 512 = omega (arith, s, c.target_dimension-width.ensures) in
    let rows : (c.write_covered-size.result + 1) * c.write_covered-size.result ≤ length c.args.entries.now = rows_inside c.write_covered-size.result (length c.args.entries.now) c.write_covered-size.ensures.few c.requires.entries in
    rows

pub slice_bounds-folded-end-2 : goal.slice_bounds-folded-end-2
slice_bounds-folded-end-2 c =
    let h = c.args.table.now.header in
    let ws = c.args.table.now.words in
    let a = c.args.a.now in
    let terms = c.args.terms.now in
    let k = c.args.k in
    let w = c.args.w in
    let fe : c.header.result.now.field ≡ h.field = ap (λ (h : Header). h.field) c.header.ensures.header in
    let s = small_at ws h a terms (suc k) k w (omega arith) c.requires.vertex c.requires.small in
    let narrow : c.target_dimension-width.result ≤ 512 = omega (arith, s, c.target_dimension-width.ensures) in
    let rows : (c.write_covered-size.result + 1) * c.write_covered-size.result ≤ length c.args.entries.now = rows_inside c.write_covered-size.result (length c.args.entries.now) c.write_covered-size.ensures.few c.requires.entries in
    sym (length-take-le _ c.args.entries.now rows)

pub fold_reduced_radical-requires-clause-terms : goal.fold_reduced_radical-requires-clause-terms
fold_reduced_radical-requires-clause-terms c =
    fewer_terms c.args.table.now.words c.args.table.now.header c.args.a.now c.args.terms.now (suc c.args.k) c.args.k (omega arith) c.requires.terms

pub fold_reduced_radical-requires-clause-small : goal.fold_reduced_radical-requires-clause-small
fold_reduced_radical-requires-clause-small c =
    fewer_small c.args.table.now.words c.args.table.now.header c.args.a.now c.args.terms.now (suc c.args.k) c.args.k (omega arith) c.requires.small

pub fold_reduced_radical-requires-clause-width : goal.fold_reduced_radical-requires-clause-width
fold_reduced_radical-requires-clause-width c =
    let h = c.args.table.now.header in
    let ws = c.args.table.now.words in
    let a = c.args.a.now in
    let terms = c.args.terms.now in
    let k = c.args.k in
    let w = c.args.w in
    let fe : c.header.result.now.field ≡ h.field = ap (λ (h : Header). h.field) c.header.ensures.header in
    let s = small_at ws h a terms (suc k) k w (omega arith) c.requires.vertex c.requires.small in
    let narrow : c.target_dimension-width.result ≤ 512 = omega (arith, s, c.target_dimension-width.ensures) in
    let rows : (c.write_covered-size.result + 1) * c.write_covered-size.result ≤ length c.args.entries.now = rows_inside c.write_covered-size.result (length c.args.entries.now) c.write_covered-size.ensures.few c.requires.entries in
    narrow

pub fold_reduced_radical-requires-clause-basis : goal.fold_reduced_radical-requires-clause-basis
fold_reduced_radical-requires-clause-basis c =
    let h = c.args.table.now.header in
    let ws = c.args.table.now.words in
    let a = c.args.a.now in
    let terms = c.args.terms.now in
    let k = c.args.k in
    let w = c.args.w in
    let fe : c.header.result.now.field ≡ h.field = ap (λ (h : Header). h.field) c.header.ensures.header in
    let s = small_at ws h a terms (suc k) k w (omega arith) c.requires.vertex c.requires.small in
    let narrow : c.target_dimension-width.result ≤ 512 = omega (arith, s, c.target_dimension-width.ensures) in
    let rows : (c.write_covered-size.result + 1) * c.write_covered-size.result ≤ length c.args.entries.now = rows_inside c.write_covered-size.result (length c.args.entries.now) c.write_covered-size.ensures.few c.requires.entries in
    product_inside c.write_covered-size.result c.target_dimension-width.result (length c.write_covered-size.new.basis) c.write_covered-size.ensures.few narrow (omega (arith, c.write_covered-size.auto.basis, c.requires.basis))

pub fold_reduced_radical-requires-clause-basis_elements : goal.fold_reduced_radical-requires-clause-basis_elements
fold_reduced_radical-requires-clause-basis_elements c =
    let h = c.args.table.now.header in
    let ws = c.args.table.now.words in
    let a = c.args.a.now in
    let terms = c.args.terms.now in
    let k = c.args.k in
    let w = c.args.w in
    let fe : c.header.result.now.field ≡ h.field = ap (λ (h : Header). h.field) c.header.ensures.header in
    let s = small_at ws h a terms (suc k) k w (omega arith) c.requires.vertex c.requires.small in
    let narrow : c.target_dimension-width.result ≤ 512 = omega (arith, s, c.target_dimension-width.ensures) in
    let rows : (c.write_covered-size.result + 1) * c.write_covered-size.result ≤ length c.args.entries.now = rows_inside c.write_covered-size.result (length c.args.entries.now) c.write_covered-size.ensures.few c.requires.entries in
    subst (λ (q : Gf). AreElements q c.write_covered-size.new.basis) (sym fe) c.write_covered-size.ensures.elements

pub fold_reduced_radical-requires-clause-inside : goal.fold_reduced_radical-requires-clause-inside
fold_reduced_radical-requires-clause-inside c =
    let h = c.args.table.now.header in
    let ws = c.args.table.now.words in
    let a = c.args.a.now in
    let terms = c.args.terms.now in
    let k = c.args.k in
    let w = c.args.w in
    let fe : c.header.result.now.field ≡ h.field = ap (λ (h : Header). h.field) c.header.ensures.header in
    let s = small_at ws h a terms (suc k) k w (omega arith) c.requires.vertex c.requires.small in
    let narrow : c.target_dimension-width.result ≤ 512 = omega (arith, s, c.target_dimension-width.ensures) in
    let rows : (c.write_covered-size.result + 1) * c.write_covered-size.result ≤ length c.args.entries.now = rows_inside c.write_covered-size.result (length c.args.entries.now) c.write_covered-size.ensures.few c.requires.entries in
    let t = c.requires.table in
    let B = basis_at h ws t a terms k w c.write_covered-size.result c.target_dimension-width.result c.write_covered-size.new.basis c.write_covered-size.new.places (c.write_covered-size.ensures.size t) c.target_dimension-width.ensures (c.write_covered-size.ensures.holds t) in
    places_inside (words_of_side h ws t a terms) (read h a) terms k w c.write_covered-size.result c.target_dimension-width.result c.write_covered-size.new.basis c.write_covered-size.new.places B

pub fold_reduced_radical-requires-clause-room : goal.fold_reduced_radical-requires-clause-room
fold_reduced_radical-requires-clause-room c =
    let h = c.args.table.now.header in
    let ws = c.args.table.now.words in
    let a = c.args.a.now in
    let terms = c.args.terms.now in
    let k = c.args.k in
    let w = c.args.w in
    let fe : c.header.result.now.field ≡ h.field = ap (λ (h : Header). h.field) c.header.ensures.header in
    let s = small_at ws h a terms (suc k) k w (omega arith) c.requires.vertex c.requires.small in
    let narrow : c.target_dimension-width.result ≤ 512 = omega (arith, s, c.target_dimension-width.ensures) in
    let rows : (c.write_covered-size.result + 1) * c.write_covered-size.result ≤ length c.args.entries.now = rows_inside c.write_covered-size.result (length c.args.entries.now) c.write_covered-size.ensures.few c.requires.entries in
    record {
      shape = length-take-le _ c.args.entries.now rows;
      places = omega (arith, c.write_covered-size.ensures.few, c.write_covered-size.auto.pivots, c.requires.pivots);
      many = omega arith;
    }

pub are_independent_at-requires-clause-width : goal.are_independent_at-requires-clause-width
are_independent_at-requires-clause-width c =
    let h = c.args.table.now.header in
    let ws = c.args.table.now.words in
    let a = c.args.a.now in
    let terms = c.args.terms.now in
    let k = c.args.k in
    let w = c.args.w in
    let fe : c.header.result.now.field ≡ h.field = ap (λ (h : Header). h.field) c.header.ensures.header in
    let s = small_at ws h a terms (suc k) k w (omega arith) c.requires.vertex c.requires.small in
    let narrow : c.target_dimension-width.result ≤ 512 = omega (arith, s, c.target_dimension-width.ensures) in
    let rows : (c.write_covered-size.result + 1) * c.write_covered-size.result ≤ length c.args.entries.now = rows_inside c.write_covered-size.result (length c.args.entries.now) c.write_covered-size.ensures.few c.requires.entries in
    narrow

pub are_independent_at-requires-clause-basis : goal.are_independent_at-requires-clause-basis
are_independent_at-requires-clause-basis c =
    let h = c.args.table.now.header in
    let ws = c.args.table.now.words in
    let a = c.args.a.now in
    let terms = c.args.terms.now in
    let k = c.args.k in
    let w = c.args.w in
    let fe : c.header.result.now.field ≡ h.field = ap (λ (h : Header). h.field) c.header.ensures.header in
    let s = small_at ws h a terms (suc k) k w (omega arith) c.requires.vertex c.requires.small in
    let narrow : c.target_dimension-width.result ≤ 512 = omega (arith, s, c.target_dimension-width.ensures) in
    let rows : (c.write_covered-size.result + 1) * c.write_covered-size.result ≤ length c.args.entries.now = rows_inside c.write_covered-size.result (length c.args.entries.now) c.write_covered-size.ensures.few c.requires.entries in
    product_inside c.write_covered-size.result c.target_dimension-width.result (length c.write_covered-size.new.basis) c.write_covered-size.ensures.few narrow (omega (arith, c.write_covered-size.auto.basis, c.requires.basis))

pub are_independent_at-requires-clause-basis_elements : goal.are_independent_at-requires-clause-basis_elements
are_independent_at-requires-clause-basis_elements c =
    let h = c.args.table.now.header in
    let ws = c.args.table.now.words in
    let a = c.args.a.now in
    let terms = c.args.terms.now in
    let k = c.args.k in
    let w = c.args.w in
    let fe : c.header.result.now.field ≡ h.field = ap (λ (h : Header). h.field) c.header.ensures.header in
    let s = small_at ws h a terms (suc k) k w (omega arith) c.requires.vertex c.requires.small in
    let narrow : c.target_dimension-width.result ≤ 512 = omega (arith, s, c.target_dimension-width.ensures) in
    let rows : (c.write_covered-size.result + 1) * c.write_covered-size.result ≤ length c.args.entries.now = rows_inside c.write_covered-size.result (length c.args.entries.now) c.write_covered-size.ensures.few c.requires.entries in
    subst (λ (q : Gf). AreElements q c.write_covered-size.new.basis) (sym fe) c.write_covered-size.ensures.elements

pub are_independent_at-requires-clause-inside : goal.are_independent_at-requires-clause-inside
are_independent_at-requires-clause-inside c =
    let h = c.args.table.now.header in
    let ws = c.args.table.now.words in
    let a = c.args.a.now in
    let terms = c.args.terms.now in
    let k = c.args.k in
    let w = c.args.w in
    let fe : c.header.result.now.field ≡ h.field = ap (λ (h : Header). h.field) c.header.ensures.header in
    let s = small_at ws h a terms (suc k) k w (omega arith) c.requires.vertex c.requires.small in
    let narrow : c.target_dimension-width.result ≤ 512 = omega (arith, s, c.target_dimension-width.ensures) in
    let rows : (c.write_covered-size.result + 1) * c.write_covered-size.result ≤ length c.args.entries.now = rows_inside c.write_covered-size.result (length c.args.entries.now) c.write_covered-size.ensures.few c.requires.entries in
    let t = c.requires.table in
    let B = basis_at h ws t a terms k w c.write_covered-size.result c.target_dimension-width.result c.write_covered-size.new.basis c.write_covered-size.new.places (c.write_covered-size.ensures.size t) c.target_dimension-width.ensures (c.write_covered-size.ensures.holds t) in
    places_inside (words_of_side h ws t a terms) (read h a) terms k w c.write_covered-size.result c.target_dimension-width.result c.write_covered-size.new.basis c.write_covered-size.new.places B

pub are_independent_at-requires-clause-room : goal.are_independent_at-requires-clause-room
are_independent_at-requires-clause-room c =
    let h = c.args.table.now.header in
    let ws = c.args.table.now.words in
    let a = c.args.a.now in
    let terms = c.args.terms.now in
    let k = c.args.k in
    let w = c.args.w in
    let fe : c.header.result.now.field ≡ h.field = ap (λ (h : Header). h.field) c.header.ensures.header in
    let s = small_at ws h a terms (suc k) k w (omega arith) c.requires.vertex c.requires.small in
    let narrow : c.target_dimension-width.result ≤ 512 = omega (arith, s, c.target_dimension-width.ensures) in
    let rows : (c.write_covered-size.result + 1) * c.write_covered-size.result ≤ length c.args.entries.now = rows_inside c.write_covered-size.result (length c.args.entries.now) c.write_covered-size.ensures.few c.requires.entries in
    record {
      shape = c.fold_reduced_radical.auto.entries ∙ length-take-le _ c.args.entries.now rows;
      places = omega (arith, c.write_covered-size.ensures.few, c.write_covered-size.auto.pivots, c.fold_reduced_radical.auto.pivots, c.requires.pivots);
      many = omega arith;
    }

pub are_independent_at-requires-clause-clear : goal.are_independent_at-requires-clause-clear
are_independent_at-requires-clause-clear c =
    c.in-Some.ensures.used.1

pub returns-in_default : goal.returns-in_default
returns-in_default c = λ t m.
    let h = c.args.table.now.header in
    let ws = c.args.table.now.words in
    let a = c.args.a.now in
    let terms = c.args.terms.now in
    let k = c.args.k in
    let w = c.args.w in
    let fe : c.header.result.now.field ≡ h.field = ap (λ (h : Header). h.field) c.header.ensures.header in
    let s = small_at ws h a terms (suc k) k w (omega arith) c.requires.vertex c.requires.small in
    let narrow : c.target_dimension-width.result ≤ 512 = omega (arith, s, c.target_dimension-width.ensures) in
    let rows : (c.write_covered-size.result + 1) * c.write_covered-size.result ≤ length c.args.entries.now = rows_inside c.write_covered-size.result (length c.args.entries.now) c.write_covered-size.ensures.few c.requires.entries in
    let B = basis_at h ws t a terms k w c.write_covered-size.result c.target_dimension-width.result c.write_covered-size.new.basis c.write_covered-size.new.places (c.write_covered-size.ensures.size t) c.target_dimension-width.ensures (c.write_covered-size.ensures.holds t) in
    c.in_default.ensures.folded t B m.stays

pub returns-then-not-are_independent_at : goal.returns-then-not-are_independent_at
returns-then-not-are_independent_at c = λ t m.
    let h = c.args.table.now.header in
    let ws = c.args.table.now.words in
    let a = c.args.a.now in
    let terms = c.args.terms.now in
    let k = c.args.k in
    let w = c.args.w in
    let fe : c.header.result.now.field ≡ h.field = ap (λ (h : Header). h.field) c.header.ensures.header in
    let s = small_at ws h a terms (suc k) k w (omega arith) c.requires.vertex c.requires.small in
    let narrow : c.target_dimension-width.result ≤ 512 = omega (arith, s, c.target_dimension-width.ensures) in
    let rows : (c.write_covered-size.result + 1) * c.write_covered-size.result ≤ length c.args.entries.now = rows_inside c.write_covered-size.result (length c.args.entries.now) c.write_covered-size.ensures.few c.requires.entries in
    let B = basis_at h ws t a terms k w c.write_covered-size.result c.target_dimension-width.result c.write_covered-size.new.basis c.write_covered-size.new.places (c.write_covered-size.ensures.size t) c.target_dimension-width.ensures (c.write_covered-size.ensures.holds t) in
    c.if-not-are_independent_at.ensures t B (c.in-Some.ensures.folded t B).1 (at_minimal (words_of_side h ws t a terms) (read h a) terms k w m)

pub returns : goal.returns
returns c = λ t.
    let h = c.args.table.now.header in
    let ws = c.args.table.now.words in
    let a = c.args.a.now in
    let terms = c.args.terms.now in
    let k = c.args.k in
    let w = c.args.w in
    let fe : c.header.result.now.field ≡ h.field = ap (λ (h : Header). h.field) c.header.ensures.header in
    let s = small_at ws h a terms (suc k) k w (omega arith) c.requires.vertex c.requires.small in
    let narrow : c.target_dimension-width.result ≤ 512 = omega (arith, s, c.target_dimension-width.ensures) in
    let rows : (c.write_covered-size.result + 1) * c.write_covered-size.result ≤ length c.args.entries.now = rows_inside c.write_covered-size.result (length c.args.entries.now) c.write_covered-size.ensures.few c.requires.entries in
    let B = basis_at h ws t a terms k w c.write_covered-size.result c.target_dimension-width.result c.write_covered-size.new.basis c.write_covered-size.new.places (c.write_covered-size.ensures.size t) c.target_dimension-width.ensures (c.write_covered-size.ensures.holds t) in
    let g = c.in-Some.ensures.folded t B in
    minimal_at (words_of_side h ws t a terms) (read h a) terms k w g.0 (c.if-not-are_independent_at.ensures t B g.1)
