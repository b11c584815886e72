use Rattle.std.proofs.Common.{ℕ, suc, ◌≡◌, ◌<◌, ◌≤◌, ◌+◌, ◌*◌, length, take, sym, ap, ap₂, ◌∙◌, arith, subst}
use Rattle.std.specs.Prelude.{MatchBool}
use Rattle.linear_algebra.specs.Field.{Gf}
use Rattle.path_algebra.specs.declared.Header.{Header}
use Rattle.resolution_checks.specs.Products.{IsZeroProduct}
use Rattle.std.proofs.lemmas.List.{length-take-le}
use Rattle.module_types.specs.declared.TermRows.{TermRows}
use Rattle.claim_conditions.specs.Terms.{vertices_at}
use Rattle.term_rows.specs.SumDims.{sum_dim, covered_dim}
use Rattle.term_rows.proofs.TermRowCells.{term_is}
use Rattle.resolution_checks.proofs.CompositesAt.{small_product, small_at, small_sum, middle_is, composes_where}
use Rattle.resolution_checks.proofs.composing.composes_at.Goals as goal

pub sum_dimension-rows-requires-clause-small : goal.sum_dimension-rows-requires-clause-small
sum_dimension-rows-requires-clause-small c =
    let h = c.args.table.now.header in
    let ws = c.args.table.now.words in
    let a = c.args.a.now in
    let terms = c.args.terms.now in
    let k = c.args.k in
    let w = c.args.w in
    let is = term_is ws h a terms (k + 1) c.requires.terms c.index.result.now c.index.ensures in
    let re = ap (λ (t : TermRows). sum_dim ws a.side t.vertices w) is in
    let s1 = small_sum ws h a terms (suc (k + 1)) (k + 1) w (omega arith) c.requires.vertex c.requires.small in
    let s2 = small_at ws h a terms (suc (k + 1)) (k + 1) w (omega arith) c.requires.vertex c.requires.small in
    let s3 = small_at ws h a terms (suc (k + 1)) k w (omega arith) c.requires.vertex c.requires.small in
    omega (arith, re, s1)

pub overflow_mul-f : goal.overflow_mul-f
overflow_mul-f c =
    let h = c.args.table.now.header in
    let ws = c.args.table.now.words in
    let a = c.args.a.now in
    let terms = c.args.terms.now in
    let k = c.args.k in
    let w = c.args.w in
    let is = term_is ws h a terms (k + 1) c.requires.terms c.index.result.now c.index.ensures in
    let re = ap (λ (t : TermRows). sum_dim ws a.side t.vertices w) is in
    let s1 = small_sum ws h a terms (suc (k + 1)) (k + 1) w (omega arith) c.requires.vertex c.requires.small in
    let s2 = small_at ws h a terms (suc (k + 1)) (k + 1) w (omega arith) c.requires.vertex c.requires.small in
    let s3 = small_at ws h a terms (suc (k + 1)) k w (omega arith) c.requires.vertex c.requires.small in
    let r : c.sum_dimension-rows.result ≤ 512 = omega (arith, c.sum_dimension-rows.ensures, re, s1) in
    let v : c.target_dimension-width.result ≤ 512 = omega (arith, c.target_dimension-width.ensures, s2) in
    let p = small_product c.sum_dimension-rows.result c.target_dimension-width.result (length c.args.first.now) r v c.requires.first in
    omega (arith, p, c.requires.first)

pub slice_bounds-f-end : goal.slice_bounds-f-end
slice_bounds-f-end c =
    let h = c.args.table.now.header in
    let ws = c.args.table.now.words in
    let a = c.args.a.now in
    let terms = c.args.terms.now in
    let k = c.args.k in
    let w = c.args.w in
    let is = term_is ws h a terms (k + 1) c.requires.terms c.index.result.now c.index.ensures in
    let re = ap (λ (t : TermRows). sum_dim ws a.side t.vertices w) is in
    let s1 = small_sum ws h a terms (suc (k + 1)) (k + 1) w (omega arith) c.requires.vertex c.requires.small in
    let s2 = small_at ws h a terms (suc (k + 1)) (k + 1) w (omega arith) c.requires.vertex c.requires.small in
    let s3 = small_at ws h a terms (suc (k + 1)) k w (omega arith) c.requires.vertex c.requires.small in
    let r : c.sum_dimension-rows.result ≤ 512 = omega (arith, c.sum_dimension-rows.ensures, re, s1) in
    let v : c.target_dimension-width.result ≤ 512 = omega (arith, c.target_dimension-width.ensures, s2) in
    let p = small_product c.sum_dimension-rows.result c.target_dimension-width.result (length c.args.first.now) r v c.requires.first in
    p

pub slice_bounds-f-end-2 : goal.slice_bounds-f-end-2
slice_bounds-f-end-2 c =
    let h = c.args.table.now.header in
    let ws = c.args.table.now.words in
    let a = c.args.a.now in
    let terms = c.args.terms.now in
    let k = c.args.k in
    let w = c.args.w in
    let is = term_is ws h a terms (k + 1) c.requires.terms c.index.result.now c.index.ensures in
    let re = ap (λ (t : TermRows). sum_dim ws a.side t.vertices w) is in
    let s1 = small_sum ws h a terms (suc (k + 1)) (k + 1) w (omega arith) c.requires.vertex c.requires.small in
    let s2 = small_at ws h a terms (suc (k + 1)) (k + 1) w (omega arith) c.requires.vertex c.requires.small in
    let s3 = small_at ws h a terms (suc (k + 1)) k w (omega arith) c.requires.vertex c.requires.small in
    let r : c.sum_dimension-rows.result ≤ 512 = omega (arith, c.sum_dimension-rows.ensures, re, s1) in
    let v : c.target_dimension-width.result ≤ 512 = omega (arith, c.target_dimension-width.ensures, s2) in
    let p = small_product c.sum_dimension-rows.result c.target_dimension-width.result (length c.args.first.now) r v c.requires.first in
    sym (length-take-le _ c.args.first.now p)

pub slice_bounds-g-end : goal.slice_bounds-g-end
slice_bounds-g-end c =
    let h = c.args.table.now.header in
    let ws = c.args.table.now.words in
    let a = c.args.a.now in
    let terms = c.args.terms.now in
    let k = c.args.k in
    let w = c.args.w in
    let is = term_is ws h a terms (k + 1) c.requires.terms c.index.result.now c.index.ensures in
    let re = ap (λ (t : TermRows). sum_dim ws a.side t.vertices w) is in
    let s1 = small_sum ws h a terms (suc (k + 1)) (k + 1) w (omega arith) c.requires.vertex c.requires.small in
    let s2 = small_at ws h a terms (suc (k + 1)) (k + 1) w (omega arith) c.requires.vertex c.requires.small in
    let s3 = small_at ws h a terms (suc (k + 1)) k w (omega arith) c.requires.vertex c.requires.small in
    let v : c.target_dimension-width.result ≤ 512 = omega (arith, c.target_dimension-width.ensures, s2) in
    let u : c.target_dimension-columns.result ≤ 512 = omega (arith, c.target_dimension-columns.ensures, s3) in
    let p' = small_product c.target_dimension-width.result c.target_dimension-columns.result (length c.args.second.now) v u c.requires.second in
    p'

pub slice_bounds-g-end-2 : goal.slice_bounds-g-end-2
slice_bounds-g-end-2 c =
    let h = c.args.table.now.header in
    let ws = c.args.table.now.words in
    let a = c.args.a.now in
    let terms = c.args.terms.now in
    let k = c.args.k in
    let w = c.args.w in
    let is = term_is ws h a terms (k + 1) c.requires.terms c.index.result.now c.index.ensures in
    let re = ap (λ (t : TermRows). sum_dim ws a.side t.vertices w) is in
    let s1 = small_sum ws h a terms (suc (k + 1)) (k + 1) w (omega arith) c.requires.vertex c.requires.small in
    let s2 = small_at ws h a terms (suc (k + 1)) (k + 1) w (omega arith) c.requires.vertex c.requires.small in
    let s3 = small_at ws h a terms (suc (k + 1)) k w (omega arith) c.requires.vertex c.requires.small in
    let v : c.target_dimension-width.result ≤ 512 = omega (arith, c.target_dimension-width.ensures, s2) in
    let u : c.target_dimension-columns.result ≤ 512 = omega (arith, c.target_dimension-columns.ensures, s3) in
    let p' = small_product c.target_dimension-width.result c.target_dimension-columns.result (length c.args.second.now) v u c.requires.second in
    sym (length-take-le _ c.args.second.now p')

pub write_term_matrix-requires-clause-into : goal.write_term_matrix-requires-clause-into
write_term_matrix-requires-clause-into c =
    let h = c.args.table.now.header in
    let ws = c.args.table.now.words in
    let a = c.args.a.now in
    let terms = c.args.terms.now in
    let k = c.args.k in
    let w = c.args.w in
    let is = term_is ws h a terms (k + 1) c.requires.terms c.index.result.now c.index.ensures in
    let re = ap (λ (t : TermRows). sum_dim ws a.side t.vertices w) is in
    let s1 = small_sum ws h a terms (suc (k + 1)) (k + 1) w (omega arith) c.requires.vertex c.requires.small in
    let s2 = small_at ws h a terms (suc (k + 1)) (k + 1) w (omega arith) c.requires.vertex c.requires.small in
    let s3 = small_at ws h a terms (suc (k + 1)) k w (omega arith) c.requires.vertex c.requires.small in
    let r : c.sum_dimension-rows.result ≤ 512 = omega (arith, c.sum_dimension-rows.ensures, re, s1) in
    let v : c.target_dimension-width.result ≤ 512 = omega (arith, c.target_dimension-width.ensures, s2) in
    let p = small_product c.sum_dimension-rows.result c.target_dimension-width.result (length c.args.first.now) r v c.requires.first in
    length-take-le _ c.args.first.now p ∙ ap₂ (λ (x y : ℕ). x * y) (c.sum_dimension-rows.ensures ∙ re) c.target_dimension-width.ensures

pub write_term_matrix-requires-clause-few : goal.write_term_matrix-requires-clause-few
write_term_matrix-requires-clause-few c =
    let h = c.args.table.now.header in
    let ws = c.args.table.now.words in
    let a = c.args.a.now in
    let terms = c.args.terms.now in
    let k = c.args.k in
    let w = c.args.w in
    let is = term_is ws h a terms (k + 1) c.requires.terms c.index.result.now c.index.ensures in
    let re = ap (λ (t : TermRows). sum_dim ws a.side t.vertices w) is in
    let s1 = small_sum ws h a terms (suc (k + 1)) (k + 1) w (omega arith) c.requires.vertex c.requires.small in
    let s2 = small_at ws h a terms (suc (k + 1)) (k + 1) w (omega arith) c.requires.vertex c.requires.small in
    let s3 = small_at ws h a terms (suc (k + 1)) k w (omega arith) c.requires.vertex c.requires.small in
    omega (arith, s1)

pub write_term_matrix-requires-2-clause-into : goal.write_term_matrix-requires-2-clause-into
write_term_matrix-requires-2-clause-into c =
    let h = c.args.table.now.header in
    let ws = c.args.table.now.words in
    let a = c.args.a.now in
    let terms = c.args.terms.now in
    let k = c.args.k in
    let w = c.args.w in
    let is = term_is ws h a terms (k + 1) c.requires.terms c.index.result.now c.index.ensures in
    let re = ap (λ (t : TermRows). sum_dim ws a.side t.vertices w) is in
    let s1 = small_sum ws h a terms (suc (k + 1)) (k + 1) w (omega arith) c.requires.vertex c.requires.small in
    let s2 = small_at ws h a terms (suc (k + 1)) (k + 1) w (omega arith) c.requires.vertex c.requires.small in
    let s3 = small_at ws h a terms (suc (k + 1)) k w (omega arith) c.requires.vertex c.requires.small in
    let v : c.target_dimension-width.result ≤ 512 = omega (arith, c.target_dimension-width.ensures, s2) in
    let u : c.target_dimension-columns.result ≤ 512 = omega (arith, c.target_dimension-columns.ensures, s3) in
    let p' = small_product c.target_dimension-width.result c.target_dimension-columns.result (length c.args.second.now) v u c.requires.second in
    length-take-le _ c.args.second.now p' ∙ ap₂ (λ (x y : ℕ). x * y) (c.target_dimension-width.ensures ∙ middle_is ws h a terms k w) c.target_dimension-columns.ensures

pub product_is_zero-requires-clause-f_shape : goal.product_is_zero-requires-clause-f_shape
product_is_zero-requires-clause-f_shape c =
    let h = c.args.table.now.header in
    let ws = c.args.table.now.words in
    let a = c.args.a.now in
    let terms = c.args.terms.now in
    let k = c.args.k in
    let w = c.args.w in
    let is = term_is ws h a terms (k + 1) c.requires.terms c.index.result.now c.index.ensures in
    let re = ap (λ (t : TermRows). sum_dim ws a.side t.vertices w) is in
    let s1 = small_sum ws h a terms (suc (k + 1)) (k + 1) w (omega arith) c.requires.vertex c.requires.small in
    let s2 = small_at ws h a terms (suc (k + 1)) (k + 1) w (omega arith) c.requires.vertex c.requires.small in
    let s3 = small_at ws h a terms (suc (k + 1)) k w (omega arith) c.requires.vertex c.requires.small in
    let r : c.sum_dimension-rows.result ≤ 512 = omega (arith, c.sum_dimension-rows.ensures, re, s1) in
    let v : c.target_dimension-width.result ≤ 512 = omega (arith, c.target_dimension-width.ensures, s2) in
    let p = small_product c.sum_dimension-rows.result c.target_dimension-width.result (length c.args.first.now) r v c.requires.first in
    c.write_term_matrix.auto.into ∙ length-take-le _ c.args.first.now p

pub product_is_zero-requires-clause-g_shape : goal.product_is_zero-requires-clause-g_shape
product_is_zero-requires-clause-g_shape c =
    let h = c.args.table.now.header in
    let ws = c.args.table.now.words in
    let a = c.args.a.now in
    let terms = c.args.terms.now in
    let k = c.args.k in
    let w = c.args.w in
    let is = term_is ws h a terms (k + 1) c.requires.terms c.index.result.now c.index.ensures in
    let re = ap (λ (t : TermRows). sum_dim ws a.side t.vertices w) is in
    let s1 = small_sum ws h a terms (suc (k + 1)) (k + 1) w (omega arith) c.requires.vertex c.requires.small in
    let s2 = small_at ws h a terms (suc (k + 1)) (k + 1) w (omega arith) c.requires.vertex c.requires.small in
    let s3 = small_at ws h a terms (suc (k + 1)) k w (omega arith) c.requires.vertex c.requires.small in
    let v : c.target_dimension-width.result ≤ 512 = omega (arith, c.target_dimension-width.ensures, s2) in
    let u : c.target_dimension-columns.result ≤ 512 = omega (arith, c.target_dimension-columns.ensures, s3) in
    let p' = small_product c.target_dimension-width.result c.target_dimension-columns.result (length c.args.second.now) v u c.requires.second in
    c.write_term_matrix-2.auto.into ∙ length-take-le _ c.args.second.now p'

pub returns : goal.returns
returns c = λ t.
    let h = c.args.table.now.header in
    let ws = c.args.table.now.words in
    let a = c.args.a.now in
    let terms = c.args.terms.now in
    let k = c.args.k in
    let w = c.args.w in
    let is = term_is ws h a terms (k + 1) c.requires.terms c.index.result.now c.index.ensures in
    let re = ap (λ (t : TermRows). sum_dim ws a.side t.vertices w) is in
    let s1 = small_sum ws h a terms (suc (k + 1)) (k + 1) w (omega arith) c.requires.vertex c.requires.small in
    let s2 = small_at ws h a terms (suc (k + 1)) (k + 1) w (omega arith) c.requires.vertex c.requires.small in
    let s3 = small_at ws h a terms (suc (k + 1)) k w (omega arith) c.requires.vertex c.requires.small in
    composes_where h ws t a terms k w c.sum_dimension-rows.result c.target_dimension-width.result c.target_dimension-columns.result c.write_term_matrix.new.into c.write_term_matrix-2.new.into c.product_is_zero.result
    (c.sum_dimension-rows.ensures ∙ re) c.target_dimension-width.ensures c.target_dimension-columns.ensures c.write_term_matrix.ensures.elements c.write_term_matrix-2.ensures.elements
    (c.write_term_matrix.ensures.matrix t) (c.write_term_matrix-2.ensures.matrix t)
    (subst (λ (q : Gf). MatchBool c.product_is_zero.result
    (IsZeroProduct q c.sum_dimension-rows.result c.target_dimension-width.result c.target_dimension-columns.result c.write_term_matrix.new.into c.write_term_matrix-2.new.into)
    (¬ IsZeroProduct q c.sum_dimension-rows.result c.target_dimension-width.result c.target_dimension-columns.result c.write_term_matrix.new.into c.write_term_matrix-2.new.into))
    (ap (λ (h : Header). h.field) c.header.ensures.header) c.product_is_zero.ensures)
