use Rattle.std.proofs.Common.{ℕ, suc, ◌≤◌, ◌*◌, length, sym, ap, ap₂, ◌∙◌, arith, subst}
use Rattle.std.proofs.lemmas.List.{length-take-le}
use Rattle.linear_algebra.specs.Field.{Gf}
use Rattle.linear_algebra.specs.Rows.{rows_of}
use Rattle.linear_algebra.specs.Kernels.{IsKernel}
use Rattle.fp_linear.specs.Slices.{AreElements}
use Rattle.path_algebra.specs.declared.Header.{Header}
use Rattle.module_types.specs.declared.TermRows.{TermRows}
use Rattle.term_rows.specs.SumDims.{sum_dim}
use Rattle.term_rows.proofs.TermRowCells.{term_is}
use Rattle.resolution_checks.proofs.CompositesAt.{small_product, small_at, small_sum}
use Rattle.cover_checks.proofs.Wholes.{square_below}
use Rattle.cover_checks.proofs.CoveredBases.{wide_inside, count_inside, kernel_size, kernel_nonzero, kernel_basis}
use Rattle.cover_checks.proofs.bases.write_kernel.Goals as goal

pub sum_dimension-rows-requires-clause-small : goal.sum_dimension-rows-requires-clause-small
sum_dimension-rows-requires-clause-small c =
    let h = c.args.table.now.header in
    let ws = c.args.table.now.words in
    let a = c.args.a.now in
    let terms = c.args.terms.now in
    let k = c.args.k in
    let w = c.args.w in
    let is = term_is ws h a terms k c.requires.terms c.index.result.now c.index.ensures in
    let re = ap (λ (t : TermRows). sum_dim ws a.side t.vertices w) is in
    let s1 = small_sum ws h a terms (suc k) k w (omega arith) c.requires.vertex c.requires.small in
    let s2 = small_at ws h a terms (suc k) k w (omega arith) c.requires.vertex c.requires.small in
    omega (arith, re, s1)

pub overflow_mul-m : goal.overflow_mul-m
overflow_mul-m c =
    let h = c.args.table.now.header in
    let ws = c.args.table.now.words in
    let a = c.args.a.now in
    let terms = c.args.terms.now in
    let k = c.args.k in
    let w = c.args.w in
    let is = term_is ws h a terms k c.requires.terms c.index.result.now c.index.ensures in
    let re = ap (λ (t : TermRows). sum_dim ws a.side t.vertices w) is in
    let s1 = small_sum ws h a terms (suc k) k w (omega arith) c.requires.vertex c.requires.small in
    let s2 = small_at ws h a terms (suc k) k w (omega arith) c.requires.vertex c.requires.small in
    let r : c.sum_dimension-rows.result ≤ 512 = omega (arith, c.sum_dimension-rows.ensures, re, s1) in
    let v : c.target_dimension-columns.result ≤ 512 = omega (arith, c.target_dimension-columns.ensures, s2) in
    let p = small_product c.sum_dimension-rows.result c.target_dimension-columns.result (length c.args.matrix.now) r v c.requires.matrix in
    omega (arith, p, c.requires.matrix)

pub slice_bounds-m-end : goal.slice_bounds-m-end
slice_bounds-m-end c =
    let h = c.args.table.now.header in
    let ws = c.args.table.now.words in
    let a = c.args.a.now in
    let terms = c.args.terms.now in
    let k = c.args.k in
    let w = c.args.w in
    let is = term_is ws h a terms k c.requires.terms c.index.result.now c.index.ensures in
    let re = ap (λ (t : TermRows). sum_dim ws a.side t.vertices w) is in
    let s1 = small_sum ws h a terms (suc k) k w (omega arith) c.requires.vertex c.requires.small in
    let s2 = small_at ws h a terms (suc k) k w (omega arith) c.requires.vertex c.requires.small in
    let r : c.sum_dimension-rows.result ≤ 512 = omega (arith, c.sum_dimension-rows.ensures, re, s1) in
    let v : c.target_dimension-columns.result ≤ 512 = omega (arith, c.target_dimension-columns.ensures, s2) in
    let p = small_product c.sum_dimension-rows.result c.target_dimension-columns.result (length c.args.matrix.now) r v c.requires.matrix in
    p

pub write_term_matrix-requires-clause-into : goal.write_term_matrix-requires-clause-into
write_term_matrix-requires-clause-into c =
    let h = c.args.table.now.header in
    let ws = c.args.table.now.words in
    let a = c.args.a.now in
    let terms = c.args.terms.now in
    let k = c.args.k in
    let w = c.args.w in
    let is = term_is ws h a terms k c.requires.terms c.index.result.now c.index.ensures in
    let re = ap (λ (t : TermRows). sum_dim ws a.side t.vertices w) is in
    let s1 = small_sum ws h a terms (suc k) k w (omega arith) c.requires.vertex c.requires.small in
    let s2 = small_at ws h a terms (suc k) k w (omega arith) c.requires.vertex c.requires.small in
    let r : c.sum_dimension-rows.result ≤ 512 = omega (arith, c.sum_dimension-rows.ensures, re, s1) in
    let v : c.target_dimension-columns.result ≤ 512 = omega (arith, c.target_dimension-columns.ensures, s2) in
    let p = small_product c.sum_dimension-rows.result c.target_dimension-columns.result (length c.args.matrix.now) r v c.requires.matrix in
    length-take-le _ c.args.matrix.now p ∙ ap₂ (λ (x y : ℕ). x * y) (c.sum_dimension-rows.ensures ∙ re) c.target_dimension-columns.ensures

pub write_term_matrix-requires-clause-few : goal.write_term_matrix-requires-clause-few
write_term_matrix-requires-clause-few c =
    let h = c.args.table.now.header in
    let ws = c.args.table.now.words in
    let a = c.args.a.now in
    let terms = c.args.terms.now in
    let k = c.args.k in
    let w = c.args.w in
    let is = term_is ws h a terms k c.requires.terms c.index.result.now c.index.ensures in
    let re = ap (λ (t : TermRows). sum_dim ws a.side t.vertices w) is in
    let s1 = small_sum ws h a terms (suc k) k w (omega arith) c.requires.vertex c.requires.small in
    let s2 = small_at ws h a terms (suc k) k w (omega arith) c.requires.vertex c.requires.small in
    omega (arith, s1)

pub overflow_add-z : goal.overflow_add-z
overflow_add-z c =
    let h = c.args.table.now.header in
    let ws = c.args.table.now.words in
    let a = c.args.a.now in
    let terms = c.args.terms.now in
    let k = c.args.k in
    let w = c.args.w in
    let is = term_is ws h a terms k c.requires.terms c.index.result.now c.index.ensures in
    let re = ap (λ (t : TermRows). sum_dim ws a.side t.vertices w) is in
    let s1 = small_sum ws h a terms (suc k) k w (omega arith) c.requires.vertex c.requires.small in
    let s2 = small_at ws h a terms (suc k) k w (omega arith) c.requires.vertex c.requires.small in
    let r : c.sum_dimension-rows.result ≤ 512 = omega (arith, c.sum_dimension-rows.ensures, re, s1) in
    let v : c.target_dimension-columns.result ≤ 512 = omega (arith, c.target_dimension-columns.ensures, s2) in
    omega (arith, r, v)

pub overflow_mul-z : goal.overflow_mul-z
overflow_mul-z c =
    let h = c.args.table.now.header in
    let ws = c.args.table.now.words in
    let a = c.args.a.now in
    let terms = c.args.terms.now in
    let k = c.args.k in
    let w = c.args.w in
    let is = term_is ws h a terms k c.requires.terms c.index.result.now c.index.ensures in
    let re = ap (λ (t : TermRows). sum_dim ws a.side t.vertices w) is in
    let s1 = small_sum ws h a terms (suc k) k w (omega arith) c.requires.vertex c.requires.small in
    let s2 = small_at ws h a terms (suc k) k w (omega arith) c.requires.vertex c.requires.small in
    let r : c.sum_dimension-rows.result ≤ 512 = omega (arith, c.sum_dimension-rows.ensures, re, s1) in
    let v : c.target_dimension-columns.result ≤ 512 = omega (arith, c.target_dimension-columns.ensures, s2) in
    let p = wide_inside c.sum_dimension-rows.result c.target_dimension-columns.result (length c.args.wide.now) r v c.requires.wide in
    omega (arith, p, c.requires.wide)

pub slice_bounds-z-end : goal.slice_bounds-z-end
slice_bounds-z-end c =
    let h = c.args.table.now.header in
    let ws = c.args.table.now.words in
    let a = c.args.a.now in
    let terms = c.args.terms.now in
    let k = c.args.k in
    let w = c.args.w in
    let is = term_is ws h a terms k c.requires.terms c.index.result.now c.index.ensures in
    let re = ap (λ (t : TermRows). sum_dim ws a.side t.vertices w) is in
    let s1 = small_sum ws h a terms (suc k) k w (omega arith) c.requires.vertex c.requires.small in
    let s2 = small_at ws h a terms (suc k) k w (omega arith) c.requires.vertex c.requires.small in
    let r : c.sum_dimension-rows.result ≤ 512 = omega (arith, c.sum_dimension-rows.ensures, re, s1) in
    let v : c.target_dimension-columns.result ≤ 512 = omega (arith, c.target_dimension-columns.ensures, s2) in
    let p = wide_inside c.sum_dimension-rows.result c.target_dimension-columns.result (length c.args.wide.now) r v c.requires.wide in
    p

pub overflow_cast-rows : goal.overflow_cast-rows
overflow_cast-rows c =
    let h = c.args.table.now.header in
    let ws = c.args.table.now.words in
    let a = c.args.a.now in
    let terms = c.args.terms.now in
    let k = c.args.k in
    let w = c.args.w in
    let is = term_is ws h a terms k c.requires.terms c.index.result.now c.index.ensures in
    let re = ap (λ (t : TermRows). sum_dim ws a.side t.vertices w) is in
    let s1 = small_sum ws h a terms (suc k) k w (omega arith) c.requires.vertex c.requires.small in
    let s2 = small_at ws h a terms (suc k) k w (omega arith) c.requires.vertex c.requires.small in
    let r : c.sum_dimension-rows.result ≤ 512 = omega (arith, c.sum_dimension-rows.ensures, re, s1) in
    let v : c.target_dimension-columns.result ≤ 512 = omega (arith, c.target_dimension-columns.ensures, s2) in
    omega (arith, r)

pub overflow_cast-columns : goal.overflow_cast-columns
overflow_cast-columns c =
    let h = c.args.table.now.header in
    let ws = c.args.table.now.words in
    let a = c.args.a.now in
    let terms = c.args.terms.now in
    let k = c.args.k in
    let w = c.args.w in
    let is = term_is ws h a terms k c.requires.terms c.index.result.now c.index.ensures in
    let re = ap (λ (t : TermRows). sum_dim ws a.side t.vertices w) is in
    let s1 = small_sum ws h a terms (suc k) k w (omega arith) c.requires.vertex c.requires.small in
    let s2 = small_at ws h a terms (suc k) k w (omega arith) c.requires.vertex c.requires.small in
    let r : c.sum_dimension-rows.result ≤ 512 = omega (arith, c.sum_dimension-rows.ensures, re, s1) in
    let v : c.target_dimension-columns.result ≤ 512 = omega (arith, c.target_dimension-columns.ensures, s2) in
    omega (arith, v)

pub kernel_of-size-requires-clause-shape : goal.kernel_of-size-requires-clause-shape
kernel_of-size-requires-clause-shape c =
    let h = c.args.table.now.header in
    let ws = c.args.table.now.words in
    let a = c.args.a.now in
    let terms = c.args.terms.now in
    let k = c.args.k in
    let w = c.args.w in
    let is = term_is ws h a terms k c.requires.terms c.index.result.now c.index.ensures in
    let re = ap (λ (t : TermRows). sum_dim ws a.side t.vertices w) is in
    let s1 = small_sum ws h a terms (suc k) k w (omega arith) c.requires.vertex c.requires.small in
    let s2 = small_at ws h a terms (suc k) k w (omega arith) c.requires.vertex c.requires.small in
    let r : c.sum_dimension-rows.result ≤ 512 = omega (arith, c.sum_dimension-rows.ensures, re, s1) in
    let v : c.target_dimension-columns.result ≤ 512 = omega (arith, c.target_dimension-columns.ensures, s2) in
    let p = small_product c.sum_dimension-rows.result c.target_dimension-columns.result (length c.args.matrix.now) r v c.requires.matrix in
    c.write_term_matrix.auto.into ∙ length-take-le _ c.args.matrix.now p

pub kernel_of-size-requires-clause-wide_shape : goal.kernel_of-size-requires-clause-wide_shape
kernel_of-size-requires-clause-wide_shape c =
    let h = c.args.table.now.header in
    let ws = c.args.table.now.words in
    let a = c.args.a.now in
    let terms = c.args.terms.now in
    let k = c.args.k in
    let w = c.args.w in
    let is = term_is ws h a terms k c.requires.terms c.index.result.now c.index.ensures in
    let re = ap (λ (t : TermRows). sum_dim ws a.side t.vertices w) is in
    let s1 = small_sum ws h a terms (suc k) k w (omega arith) c.requires.vertex c.requires.small in
    let s2 = small_at ws h a terms (suc k) k w (omega arith) c.requires.vertex c.requires.small in
    let r : c.sum_dimension-rows.result ≤ 512 = omega (arith, c.sum_dimension-rows.ensures, re, s1) in
    let v : c.target_dimension-columns.result ≤ 512 = omega (arith, c.target_dimension-columns.ensures, s2) in
    let p = wide_inside c.sum_dimension-rows.result c.target_dimension-columns.result (length c.args.wide.now) r v c.requires.wide in
    length-take-le _ c.args.wide.now p

pub kernel_of-size-requires-clause-small : goal.kernel_of-size-requires-clause-small
kernel_of-size-requires-clause-small c =
    let h = c.args.table.now.header in
    let ws = c.args.table.now.words in
    let a = c.args.a.now in
    let terms = c.args.terms.now in
    let k = c.args.k in
    let w = c.args.w in
    let is = term_is ws h a terms k c.requires.terms c.index.result.now c.index.ensures in
    let re = ap (λ (t : TermRows). sum_dim ws a.side t.vertices w) is in
    let s1 = small_sum ws h a terms (suc k) k w (omega arith) c.requires.vertex c.requires.small in
    let s2 = small_at ws h a terms (suc k) k w (omega arith) c.requires.vertex c.requires.small in
    let r : c.sum_dimension-rows.result ≤ 512 = omega (arith, c.sum_dimension-rows.ensures, re, s1) in
    let v : c.target_dimension-columns.result ≤ 512 = omega (arith, c.target_dimension-columns.ensures, s2) in
    r

pub kernel_of-size-requires-clause-small_columns : goal.kernel_of-size-requires-clause-small_columns
kernel_of-size-requires-clause-small_columns c =
    let h = c.args.table.now.header in
    let ws = c.args.table.now.words in
    let a = c.args.a.now in
    let terms = c.args.terms.now in
    let k = c.args.k in
    let w = c.args.w in
    let is = term_is ws h a terms k c.requires.terms c.index.result.now c.index.ensures in
    let re = ap (λ (t : TermRows). sum_dim ws a.side t.vertices w) is in
    let s1 = small_sum ws h a terms (suc k) k w (omega arith) c.requires.vertex c.requires.small in
    let s2 = small_at ws h a terms (suc k) k w (omega arith) c.requires.vertex c.requires.small in
    let r : c.sum_dimension-rows.result ≤ 512 = omega (arith, c.sum_dimension-rows.ensures, re, s1) in
    let v : c.target_dimension-columns.result ≤ 512 = omega (arith, c.target_dimension-columns.ensures, s2) in
    v

pub kernel_of-size-requires-clause-pivots : goal.kernel_of-size-requires-clause-pivots
kernel_of-size-requires-clause-pivots c =
    let h = c.args.table.now.header in
    let ws = c.args.table.now.words in
    let a = c.args.a.now in
    let terms = c.args.terms.now in
    let k = c.args.k in
    let w = c.args.w in
    let is = term_is ws h a terms k c.requires.terms c.index.result.now c.index.ensures in
    let re = ap (λ (t : TermRows). sum_dim ws a.side t.vertices w) is in
    let s1 = small_sum ws h a terms (suc k) k w (omega arith) c.requires.vertex c.requires.small in
    let s2 = small_at ws h a terms (suc k) k w (omega arith) c.requires.vertex c.requires.small in
    let r : c.sum_dimension-rows.result ≤ 512 = omega (arith, c.sum_dimension-rows.ensures, re, s1) in
    let v : c.target_dimension-columns.result ≤ 512 = omega (arith, c.target_dimension-columns.ensures, s2) in
    omega (arith, r, c.requires.pivots)

pub kernel_of-size-requires-clause-room : goal.kernel_of-size-requires-clause-room
kernel_of-size-requires-clause-room c =
    let h = c.args.table.now.header in
    let ws = c.args.table.now.words in
    let a = c.args.a.now in
    let terms = c.args.terms.now in
    let k = c.args.k in
    let w = c.args.w in
    let is = term_is ws h a terms k c.requires.terms c.index.result.now c.index.ensures in
    let re = ap (λ (t : TermRows). sum_dim ws a.side t.vertices w) is in
    let s1 = small_sum ws h a terms (suc k) k w (omega arith) c.requires.vertex c.requires.small in
    let s2 = small_at ws h a terms (suc k) k w (omega arith) c.requires.vertex c.requires.small in
    let r : c.sum_dimension-rows.result ≤ 512 = omega (arith, c.sum_dimension-rows.ensures, re, s1) in
    let v : c.target_dimension-columns.result ≤ 512 = omega (arith, c.target_dimension-columns.ensures, s2) in
    square_below c.sum_dimension-rows.result (length c.args.basis.now) r c.requires.basis

pub write_places-requires-clause-inside : goal.write_places-requires-clause-inside
write_places-requires-clause-inside c =
    let h = c.args.table.now.header in
    let ws = c.args.table.now.words in
    let a = c.args.a.now in
    let terms = c.args.terms.now in
    let k = c.args.k in
    let w = c.args.w in
    let is = term_is ws h a terms k c.requires.terms c.index.result.now c.index.ensures in
    let re = ap (λ (t : TermRows). sum_dim ws a.side t.vertices w) is in
    let s1 = small_sum ws h a terms (suc k) k w (omega arith) c.requires.vertex c.requires.small in
    let s2 = small_at ws h a terms (suc k) k w (omega arith) c.requires.vertex c.requires.small in
    let r : c.sum_dimension-rows.result ≤ 512 = omega (arith, c.sum_dimension-rows.ensures, re, s1) in
    let v : c.target_dimension-columns.result ≤ 512 = omega (arith, c.target_dimension-columns.ensures, s2) in
    count_inside c.kernel_of-size.result c.sum_dimension-rows.result (length c.kernel_of-size.new.basis) c.kernel_of-size.ensures.few r (omega arith)

pub write_places-requires-clause-room : goal.write_places-requires-clause-room
write_places-requires-clause-room c =
    let h = c.args.table.now.header in
    let ws = c.args.table.now.words in
    let a = c.args.a.now in
    let terms = c.args.terms.now in
    let k = c.args.k in
    let w = c.args.w in
    let is = term_is ws h a terms k c.requires.terms c.index.result.now c.index.ensures in
    let re = ap (λ (t : TermRows). sum_dim ws a.side t.vertices w) is in
    let s1 = small_sum ws h a terms (suc k) k w (omega arith) c.requires.vertex c.requires.small in
    let s2 = small_at ws h a terms (suc k) k w (omega arith) c.requires.vertex c.requires.small in
    let r : c.sum_dimension-rows.result ≤ 512 = omega (arith, c.sum_dimension-rows.ensures, re, s1) in
    let v : c.target_dimension-columns.result ≤ 512 = omega (arith, c.target_dimension-columns.ensures, s2) in
    omega (arith, r, c.kernel_of-size.ensures.few, c.requires.places)

pub write_places-requires-clause-nonzero : goal.write_places-requires-clause-nonzero
write_places-requires-clause-nonzero c =
    let h = c.args.table.now.header in
    let ws = c.args.table.now.words in
    let a = c.args.a.now in
    let terms = c.args.terms.now in
    let k = c.args.k in
    let w = c.args.w in
    let is = term_is ws h a terms k c.requires.terms c.index.result.now c.index.ensures in
    let re = ap (λ (t : TermRows). sum_dim ws a.side t.vertices w) is in
    let s1 = small_sum ws h a terms (suc k) k w (omega arith) c.requires.vertex c.requires.small in
    let s2 = small_at ws h a terms (suc k) k w (omega arith) c.requires.vertex c.requires.small in
    let r : c.sum_dimension-rows.result ≤ 512 = omega (arith, c.sum_dimension-rows.ensures, re, s1) in
    let v : c.target_dimension-columns.result ≤ 512 = omega (arith, c.target_dimension-columns.ensures, s2) in
    let fe = ap (λ (h : Header). h.field) c.header.ensures.header in
    let T = c.header.ensures.table in
    let eb = subst (λ (q : Gf). AreElements q c.kernel_of-size.new.basis) fe c.kernel_of-size.ensures.elements in
    let ke = subst (λ (q : Gf). IsKernel q c.sum_dimension-rows.result c.target_dimension-columns.result (rows_of c.sum_dimension-rows.result c.target_dimension-columns.result c.write_term_matrix.new.into) (rows_of c.kernel_of-size.result c.sum_dimension-rows.result c.kernel_of-size.new.basis)) fe c.kernel_of-size.ensures.kernel in
    kernel_nonzero h ws T a terms k w c.sum_dimension-rows.result c.target_dimension-columns.result c.kernel_of-size.result c.write_term_matrix.new.into c.kernel_of-size.new.basis (c.sum_dimension-rows.ensures ∙ re) c.target_dimension-columns.ensures c.write_term_matrix.ensures.elements eb (c.write_term_matrix.ensures.matrix T) ke

pub returns-clause-few : goal.returns-clause-few
returns-clause-few c =
    let h = c.args.table.now.header in
    let ws = c.args.table.now.words in
    let a = c.args.a.now in
    let terms = c.args.terms.now in
    let k = c.args.k in
    let w = c.args.w in
    let is = term_is ws h a terms k c.requires.terms c.index.result.now c.index.ensures in
    let re = ap (λ (t : TermRows). sum_dim ws a.side t.vertices w) is in
    let s1 = small_sum ws h a terms (suc k) k w (omega arith) c.requires.vertex c.requires.small in
    let s2 = small_at ws h a terms (suc k) k w (omega arith) c.requires.vertex c.requires.small in
    let r : c.sum_dimension-rows.result ≤ 512 = omega (arith, c.sum_dimension-rows.ensures, re, s1) in
    let v : c.target_dimension-columns.result ≤ 512 = omega (arith, c.target_dimension-columns.ensures, s2) in
    omega (arith, r, c.kernel_of-size.ensures.few)

pub returns-clause-elements : goal.returns-clause-elements
returns-clause-elements c =
    let h = c.args.table.now.header in
    let ws = c.args.table.now.words in
    let a = c.args.a.now in
    let terms = c.args.terms.now in
    let k = c.args.k in
    let w = c.args.w in
    let is = term_is ws h a terms k c.requires.terms c.index.result.now c.index.ensures in
    let re = ap (λ (t : TermRows). sum_dim ws a.side t.vertices w) is in
    let s1 = small_sum ws h a terms (suc k) k w (omega arith) c.requires.vertex c.requires.small in
    let s2 = small_at ws h a terms (suc k) k w (omega arith) c.requires.vertex c.requires.small in
    let r : c.sum_dimension-rows.result ≤ 512 = omega (arith, c.sum_dimension-rows.ensures, re, s1) in
    let v : c.target_dimension-columns.result ≤ 512 = omega (arith, c.target_dimension-columns.ensures, s2) in
    let fe = ap (λ (h : Header). h.field) c.header.ensures.header in
    subst (λ (q : Gf). AreElements q c.kernel_of-size.new.basis) fe c.kernel_of-size.ensures.elements

pub returns-clause-size : goal.returns-clause-size
returns-clause-size c =
    λ t.
    let h = c.args.table.now.header in
    let ws = c.args.table.now.words in
    let a = c.args.a.now in
    let terms = c.args.terms.now in
    let k = c.args.k in
    let w = c.args.w in
    let is = term_is ws h a terms k c.requires.terms c.index.result.now c.index.ensures in
    let re = ap (λ (t : TermRows). sum_dim ws a.side t.vertices w) is in
    let s1 = small_sum ws h a terms (suc k) k w (omega arith) c.requires.vertex c.requires.small in
    let s2 = small_at ws h a terms (suc k) k w (omega arith) c.requires.vertex c.requires.small in
    let r : c.sum_dimension-rows.result ≤ 512 = omega (arith, c.sum_dimension-rows.ensures, re, s1) in
    let v : c.target_dimension-columns.result ≤ 512 = omega (arith, c.target_dimension-columns.ensures, s2) in
    let fe = ap (λ (h : Header). h.field) c.header.ensures.header in
    let T = c.header.ensures.table in
    let eb = subst (λ (q : Gf). AreElements q c.kernel_of-size.new.basis) fe c.kernel_of-size.ensures.elements in
    let ke = subst (λ (q : Gf). IsKernel q c.sum_dimension-rows.result c.target_dimension-columns.result (rows_of c.sum_dimension-rows.result c.target_dimension-columns.result c.write_term_matrix.new.into) (rows_of c.kernel_of-size.result c.sum_dimension-rows.result c.kernel_of-size.new.basis)) fe c.kernel_of-size.ensures.kernel in
    kernel_size h ws t a terms k w c.sum_dimension-rows.result c.target_dimension-columns.result c.kernel_of-size.result c.write_term_matrix.new.into c.kernel_of-size.new.basis (c.sum_dimension-rows.ensures ∙ re) c.target_dimension-columns.ensures c.write_term_matrix.ensures.elements eb (c.write_term_matrix.ensures.matrix t) ke

pub returns-clause-holds : goal.returns-clause-holds
returns-clause-holds c =
    λ t.
    let h = c.args.table.now.header in
    let ws = c.args.table.now.words in
    let a = c.args.a.now in
    let terms = c.args.terms.now in
    let k = c.args.k in
    let w = c.args.w in
    let is = term_is ws h a terms k c.requires.terms c.index.result.now c.index.ensures in
    let re = ap (λ (t : TermRows). sum_dim ws a.side t.vertices w) is in
    let s1 = small_sum ws h a terms (suc k) k w (omega arith) c.requires.vertex c.requires.small in
    let s2 = small_at ws h a terms (suc k) k w (omega arith) c.requires.vertex c.requires.small in
    let r : c.sum_dimension-rows.result ≤ 512 = omega (arith, c.sum_dimension-rows.ensures, re, s1) in
    let v : c.target_dimension-columns.result ≤ 512 = omega (arith, c.target_dimension-columns.ensures, s2) in
    let fe = ap (λ (h : Header). h.field) c.header.ensures.header in
    let T = c.header.ensures.table in
    let eb = subst (λ (q : Gf). AreElements q c.kernel_of-size.new.basis) fe c.kernel_of-size.ensures.elements in
    let ke = subst (λ (q : Gf). IsKernel q c.sum_dimension-rows.result c.target_dimension-columns.result (rows_of c.sum_dimension-rows.result c.target_dimension-columns.result c.write_term_matrix.new.into) (rows_of c.kernel_of-size.result c.sum_dimension-rows.result c.kernel_of-size.new.basis)) fe c.kernel_of-size.ensures.kernel in
    kernel_basis h ws t a terms k w c.sum_dimension-rows.result c.target_dimension-columns.result c.kernel_of-size.result c.write_term_matrix.new.into c.kernel_of-size.new.basis (c.sum_dimension-rows.ensures ∙ re) c.target_dimension-columns.ensures c.write_term_matrix.ensures.elements eb (c.write_term_matrix.ensures.matrix t) ke c.write_places.new.places c.write_places.ensures.places

pub slice_bounds-m-end-2 : goal.slice_bounds-m-end-2
slice_bounds-m-end-2 c =
    let h = c.args.table.now.header in
    let ws = c.args.table.now.words in
    let a = c.args.a.now in
    let terms = c.args.terms.now in
    let k = c.args.k in
    let w = c.args.w in
    let is = term_is ws h a terms k c.requires.terms c.index.result.now c.index.ensures in
    let re = ap (λ (t : TermRows). sum_dim ws a.side t.vertices w) is in
    let s1 = small_sum ws h a terms (suc k) k w (omega arith) c.requires.vertex c.requires.small in
    let s2 = small_at ws h a terms (suc k) k w (omega arith) c.requires.vertex c.requires.small in
    let r : c.sum_dimension-rows.result ≤ 512 = omega (arith, c.sum_dimension-rows.ensures, re, s1) in
    let v : c.target_dimension-columns.result ≤ 512 = omega (arith, c.target_dimension-columns.ensures, s2) in
    let p = small_product c.sum_dimension-rows.result c.target_dimension-columns.result (length c.args.matrix.now) r v c.requires.matrix in
    sym (length-take-le _ c.args.matrix.now p)

pub slice_bounds-z-end-2 : goal.slice_bounds-z-end-2
slice_bounds-z-end-2 c =
    let h = c.args.table.now.header in
    let ws = c.args.table.now.words in
    let a = c.args.a.now in
    let terms = c.args.terms.now in
    let k = c.args.k in
    let w = c.args.w in
    let is = term_is ws h a terms k c.requires.terms c.index.result.now c.index.ensures in
    let re = ap (λ (t : TermRows). sum_dim ws a.side t.vertices w) is in
    let s1 = small_sum ws h a terms (suc k) k w (omega arith) c.requires.vertex c.requires.small in
    let s2 = small_at ws h a terms (suc k) k w (omega arith) c.requires.vertex c.requires.small in
    let r : c.sum_dimension-rows.result ≤ 512 = omega (arith, c.sum_dimension-rows.ensures, re, s1) in
    let v : c.target_dimension-columns.result ≤ 512 = omega (arith, c.target_dimension-columns.ensures, s2) in
    let p = wide_inside c.sum_dimension-rows.result c.target_dimension-columns.result (length c.args.wide.now) r v c.requires.wide in
    sym (length-take-le _ c.args.wide.now p)

pub overflow_cast-rows-2 : goal.overflow_cast-rows-2
overflow_cast-rows-2 c =
    let h = c.args.table.now.header in
    let ws = c.args.table.now.words in
    let a = c.args.a.now in
    let terms = c.args.terms.now in
    let k = c.args.k in
    let w = c.args.w in
    let is = term_is ws h a terms k c.requires.terms c.index.result.now c.index.ensures in
    let re = ap (λ (t : TermRows). sum_dim ws a.side t.vertices w) is in
    let s1 = small_sum ws h a terms (suc k) k w (omega arith) c.requires.vertex c.requires.small in
    let s2 = small_at ws h a terms (suc k) k w (omega arith) c.requires.vertex c.requires.small in
    let r : c.sum_dimension-rows.result ≤ 512 = omega (arith, c.sum_dimension-rows.ensures, re, s1) in
    let v : c.target_dimension-columns.result ≤ 512 = omega (arith, c.target_dimension-columns.ensures, s2) in
    omega (arith, r)
