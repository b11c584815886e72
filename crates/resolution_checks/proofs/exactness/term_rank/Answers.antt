use Rattle.std.proofs.Common.{ℕ, suc, ◌≡◌, ◌<◌, ◌≤◌, ◌+◌, ◌*◌, length, take, sym, ap, ap₂, ◌∙◌, arith, subst}
use Rattle.linear_algebra.specs.Field.{Gf}
use Rattle.linear_algebra.specs.Reduced.{ReducesTo}
use Rattle.linear_algebra.specs.Rows.{rows_of}
use Rattle.fp_linear.specs.Slices.{AreElements}
use Rattle.path_algebra.specs.declared.Header.{Header}
use Rattle.std.proofs.lemmas.List.{length-take-le}
use Rattle.module_types.specs.declared.TermRows.{TermRows}
use Rattle.claim_conditions.specs.Terms.{vertices_at}
use Rattle.term_rows.specs.SumDims.{sum_dim, covered_dim}
use Rattle.term_rows.proofs.TermRowCells.{term_is}
use Rattle.resolution_checks.proofs.CompositesAt.{small_product, small_at, small_sum}
use Rattle.resolution_checks.proofs.RanksAt.{term_rank_is}
use Rattle.resolution_checks.proofs.exactness.term_rank.Goals as goal

pub sum_dimension-rows-requires-clause-small : goal.sum_dimension-rows-requires-clause-small
sum_dimension-rows-requires-clause-small c =
    let h = c.args.table.now.header in
    let ws = c.args.table.now.words in
    let a = c.args.a.now in
    let terms = c.args.terms.now in
    let k = c.args.k in
    let w = c.args.w in
    let is = term_is ws h a terms k c.requires.terms c.index.result.now c.index.ensures in
    let re = ap (λ (t : TermRows). sum_dim ws a.side t.vertices w) is in
    let s1 = small_sum ws h a terms (suc k) k w (omega arith) c.requires.vertex c.requires.small in
    let s2 = small_at ws h a terms (suc k) k w (omega arith) c.requires.vertex c.requires.small in
    omega (arith, re, s1)

pub overflow_mul-f : goal.overflow_mul-f
overflow_mul-f c =
    let h = c.args.table.now.header in
    let ws = c.args.table.now.words in
    let a = c.args.a.now in
    let terms = c.args.terms.now in
    let k = c.args.k in
    let w = c.args.w in
    let is = term_is ws h a terms k c.requires.terms c.index.result.now c.index.ensures in
    let re = ap (λ (t : TermRows). sum_dim ws a.side t.vertices w) is in
    let s1 = small_sum ws h a terms (suc k) k w (omega arith) c.requires.vertex c.requires.small in
    let s2 = small_at ws h a terms (suc k) k w (omega arith) c.requires.vertex c.requires.small in
    let r : c.sum_dimension-rows.result ≤ 512 = omega (arith, c.sum_dimension-rows.ensures, re, s1) in
    let v : c.target_dimension-columns.result ≤ 512 = omega (arith, c.target_dimension-columns.ensures, s2) in
    let p = small_product c.sum_dimension-rows.result c.target_dimension-columns.result (length c.args.into.now) r v c.requires.into in
    omega (arith, p, c.requires.into)

pub slice_bounds-f-end : goal.slice_bounds-f-end
slice_bounds-f-end c =
    let h = c.args.table.now.header in
    let ws = c.args.table.now.words in
    let a = c.args.a.now in
    let terms = c.args.terms.now in
    let k = c.args.k in
    let w = c.args.w in
    let is = term_is ws h a terms k c.requires.terms c.index.result.now c.index.ensures in
    let re = ap (λ (t : TermRows). sum_dim ws a.side t.vertices w) is in
    let s1 = small_sum ws h a terms (suc k) k w (omega arith) c.requires.vertex c.requires.small in
    let s2 = small_at ws h a terms (suc k) k w (omega arith) c.requires.vertex c.requires.small in
    let r : c.sum_dimension-rows.result ≤ 512 = omega (arith, c.sum_dimension-rows.ensures, re, s1) in
    let v : c.target_dimension-columns.result ≤ 512 = omega (arith, c.target_dimension-columns.ensures, s2) in
    let p = small_product c.sum_dimension-rows.result c.target_dimension-columns.result (length c.args.into.now) r v c.requires.into in
    p

pub slice_bounds-f-end-2 : goal.slice_bounds-f-end-2
slice_bounds-f-end-2 c =
    let h = c.args.table.now.header in
    let ws = c.args.table.now.words in
    let a = c.args.a.now in
    let terms = c.args.terms.now in
    let k = c.args.k in
    let w = c.args.w in
    let is = term_is ws h a terms k c.requires.terms c.index.result.now c.index.ensures in
    let re = ap (λ (t : TermRows). sum_dim ws a.side t.vertices w) is in
    let s1 = small_sum ws h a terms (suc k) k w (omega arith) c.requires.vertex c.requires.small in
    let s2 = small_at ws h a terms (suc k) k w (omega arith) c.requires.vertex c.requires.small in
    let r : c.sum_dimension-rows.result ≤ 512 = omega (arith, c.sum_dimension-rows.ensures, re, s1) in
    let v : c.target_dimension-columns.result ≤ 512 = omega (arith, c.target_dimension-columns.ensures, s2) in
    let p = small_product c.sum_dimension-rows.result c.target_dimension-columns.result (length c.args.into.now) r v c.requires.into in
    sym (length-take-le _ c.args.into.now p)

pub write_term_matrix-requires-clause-into : goal.write_term_matrix-requires-clause-into
write_term_matrix-requires-clause-into c =
    let h = c.args.table.now.header in
    let ws = c.args.table.now.words in
    let a = c.args.a.now in
    let terms = c.args.terms.now in
    let k = c.args.k in
    let w = c.args.w in
    let is = term_is ws h a terms k c.requires.terms c.index.result.now c.index.ensures in
    let re = ap (λ (t : TermRows). sum_dim ws a.side t.vertices w) is in
    let s1 = small_sum ws h a terms (suc k) k w (omega arith) c.requires.vertex c.requires.small in
    let s2 = small_at ws h a terms (suc k) k w (omega arith) c.requires.vertex c.requires.small in
    let r : c.sum_dimension-rows.result ≤ 512 = omega (arith, c.sum_dimension-rows.ensures, re, s1) in
    let v : c.target_dimension-columns.result ≤ 512 = omega (arith, c.target_dimension-columns.ensures, s2) in
    let p = small_product c.sum_dimension-rows.result c.target_dimension-columns.result (length c.args.into.now) r v c.requires.into in
    length-take-le _ c.args.into.now p ∙ ap₂ (λ (x y : ℕ). x * y) (c.sum_dimension-rows.ensures ∙ re) c.target_dimension-columns.ensures

pub echelon_rows-requires-clause-shape : goal.echelon_rows-requires-clause-shape
echelon_rows-requires-clause-shape c =
    let h = c.args.table.now.header in
    let ws = c.args.table.now.words in
    let a = c.args.a.now in
    let terms = c.args.terms.now in
    let k = c.args.k in
    let w = c.args.w in
    let is = term_is ws h a terms k c.requires.terms c.index.result.now c.index.ensures in
    let re = ap (λ (t : TermRows). sum_dim ws a.side t.vertices w) is in
    let s1 = small_sum ws h a terms (suc k) k w (omega arith) c.requires.vertex c.requires.small in
    let s2 = small_at ws h a terms (suc k) k w (omega arith) c.requires.vertex c.requires.small in
    let r : c.sum_dimension-rows.result ≤ 512 = omega (arith, c.sum_dimension-rows.ensures, re, s1) in
    let v : c.target_dimension-columns.result ≤ 512 = omega (arith, c.target_dimension-columns.ensures, s2) in
    let p = small_product c.sum_dimension-rows.result c.target_dimension-columns.result (length c.args.into.now) r v c.requires.into in
    c.write_term_matrix.auto.into ∙ length-take-le _ c.args.into.now p

pub echelon_rows-requires-clause-room : goal.echelon_rows-requires-clause-room
echelon_rows-requires-clause-room c =
    let h = c.args.table.now.header in
    let ws = c.args.table.now.words in
    let a = c.args.a.now in
    let terms = c.args.terms.now in
    let k = c.args.k in
    let w = c.args.w in
    let is = term_is ws h a terms k c.requires.terms c.index.result.now c.index.ensures in
    let re = ap (λ (t : TermRows). sum_dim ws a.side t.vertices w) is in
    let s1 = small_sum ws h a terms (suc k) k w (omega arith) c.requires.vertex c.requires.small in
    let s2 = small_at ws h a terms (suc k) k w (omega arith) c.requires.vertex c.requires.small in
    let r : c.sum_dimension-rows.result ≤ 512 = omega (arith, c.sum_dimension-rows.ensures, re, s1) in
    let v : c.target_dimension-columns.result ≤ 512 = omega (arith, c.target_dimension-columns.ensures, s2) in
    let p = small_product c.sum_dimension-rows.result c.target_dimension-columns.result (length c.args.into.now) r v c.requires.into in
    omega (arith, r, c.requires.pivots)

pub write_term_matrix-requires-clause-few : goal.write_term_matrix-requires-clause-few
write_term_matrix-requires-clause-few c =
    let h = c.args.table.now.header in
    let ws = c.args.table.now.words in
    let a = c.args.a.now in
    let terms = c.args.terms.now in
    let k = c.args.k in
    let w = c.args.w in
    let is = term_is ws h a terms k c.requires.terms c.index.result.now c.index.ensures in
    let re = ap (λ (t : TermRows). sum_dim ws a.side t.vertices w) is in
    let s1 = small_sum ws h a terms (suc k) k w (omega arith) c.requires.vertex c.requires.small in
    let s2 = small_at ws h a terms (suc k) k w (omega arith) c.requires.vertex c.requires.small in
    omega (arith, s1)

pub overflow_cast-rows : goal.overflow_cast-rows
overflow_cast-rows c =
    let h = c.args.table.now.header in
    let ws = c.args.table.now.words in
    let a = c.args.a.now in
    let terms = c.args.terms.now in
    let k = c.args.k in
    let w = c.args.w in
    let is = term_is ws h a terms k c.requires.terms c.index.result.now c.index.ensures in
    let re = ap (λ (t : TermRows). sum_dim ws a.side t.vertices w) is in
    let s1 = small_sum ws h a terms (suc k) k w (omega arith) c.requires.vertex c.requires.small in
    let s2 = small_at ws h a terms (suc k) k w (omega arith) c.requires.vertex c.requires.small in
    let r : c.sum_dimension-rows.result ≤ 512 = omega (arith, c.sum_dimension-rows.ensures, re, s1) in
    let v : c.target_dimension-columns.result ≤ 512 = omega (arith, c.target_dimension-columns.ensures, s2) in
    let p = small_product c.sum_dimension-rows.result c.target_dimension-columns.result (length c.args.into.now) r v c.requires.into in
    omega (arith, r)

pub returns : goal.returns
returns c = λ t.
    let h = c.args.table.now.header in
    let ws = c.args.table.now.words in
    let a = c.args.a.now in
    let terms = c.args.terms.now in
    let k = c.args.k in
    let w = c.args.w in
    let is = term_is ws h a terms k c.requires.terms c.index.result.now c.index.ensures in
    let re = ap (λ (t : TermRows). sum_dim ws a.side t.vertices w) is in
    let s1 = small_sum ws h a terms (suc k) k w (omega arith) c.requires.vertex c.requires.small in
    let s2 = small_at ws h a terms (suc k) k w (omega arith) c.requires.vertex c.requires.small in
    term_rank_is h ws t a terms k w c.sum_dimension-rows.result c.target_dimension-columns.result c.write_term_matrix.new.into c.echelon_rows.new.entries c.echelon_rows.new.pivots c.echelon_rows.result
    (c.sum_dimension-rows.ensures ∙ re) c.target_dimension-columns.ensures c.write_term_matrix.ensures.elements
    (subst (λ (q : Gf). AreElements q c.echelon_rows.new.entries) (ap (λ (h : Header). h.field) c.header.ensures.header) c.echelon_rows.ensures.elements)
    (subst (λ (q : Gf). ReducesTo q c.target_dimension-columns.result (rows_of c.sum_dimension-rows.result c.target_dimension-columns.result c.write_term_matrix.new.into)
    (rows_of c.sum_dimension-rows.result c.target_dimension-columns.result c.echelon_rows.new.entries) c.echelon_rows.new.pivots c.echelon_rows.result) (ap (λ (h : Header). h.field) c.header.ensures.header) c.echelon_rows.ensures.form) (c.write_term_matrix.ensures.matrix t)
