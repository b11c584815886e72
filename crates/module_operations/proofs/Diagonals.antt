-- Blocks, from matrices that are put beside and below each other.
use Rattle.std.proofs.Common.{ℕ, ◌≤◌, ◌≡◌, ◌+◌, ◌*◌, List, ◌++◌, sym, ap, ap₂, ◌∙◌, refl, arith, subst}
use Rattle.std.proofs.Math.Nat.{mul-le-mul}
use Rattle.linear_algebra.specs.Field.{Gf}
use Rattle.linear_algebra.specs.Matrix.{Mat, zeros as zero_matrix_of, transpose, stack, beside}
use Rattle.linear_algebra.specs.MatrixLaws.{transpose_transpose}
use Rattle.linear_algebra.specs.Blocks.{transpose_stack}
use Rattle.linear_algebra.specs.DirectSum.{diagonal}
use Rattle.linear_algebra.specs.Rows.{IsGrid, zeros, transposed}
use Rattle.linear_algebra.specs.Typed.{as_mat, grid_of}
use Rattle.linear_algebra.proofs.Typed.{as_mat-grid_of, IsGrid-grid_of, grid_of-as_mat, as_mat-append, IsGrid-append, as_mat-transposed, IsGrid-transposed}
use Rattle.fp_linear.specs.Matrix.{PlainMatrix, plain, IsMatrix, most_entries, zero_rows}
use Rattle.row_spaces.specs.RowSpaces.{typed}

zero_grid : (q : Gf) (m n : ℕ) → zero_rows m n ≡ grid_of (zero_matrix_of q m n)
unfolding zero_rows zeros zero_matrix_of grid_of
zero_grid q m n = refl

pub zero_matrix : (q : Gf) (m n : ℕ) (a : PlainMatrix) → m * n ≤ most_entries → a ≡ plain q m n (zero_rows m n) → IsMatrix a
zero_matrix q m n a few e = subst IsMatrix (sym e) (record { grid = subst (IsGrid q m n) (sym (zero_grid q m n)) (IsGrid-grid_of (zero_matrix_of q m n)); fits = few })

pub zero_typed : (q : Gf) (m n : ℕ) → as_mat q m n (zero_rows m n) ≡ zero_matrix_of q m n
zero_typed q m n = ap (as_mat q m n) (zero_grid q m n) ∙ as_mat-grid_of (zero_matrix_of q m n)

-- Grids beside each other, by their columns.
grids_beside : (q : Gf) (m n k : ℕ) (a b : List (List ℕ)) → IsGrid q m n a → IsGrid q m k b → transposed (n + k) m (transposed m n a ++ transposed m k b) ≡ grid_of (beside (as_mat q m n a) (as_mat q m k b))
grids_beside q m n k a b g h =
    let ta = IsGrid-transposed q m n a g in
    let tb = IsGrid-transposed q m k b h in
    let s = IsGrid-append q n k m (transposed m n a) (transposed m k b) ta tb in
    sym (grid_of-as_mat q m (n + k) (transposed (n + k) m (transposed m n a ++ transposed m k b)) (IsGrid-transposed q (n + k) m (transposed m n a ++ transposed m k b) s))
    ∙ ap grid_of (as_mat-transposed q (n + k) m (transposed m n a ++ transposed m k b) s ∙ ap transpose (as_mat-append q n k m (transposed m n a) (transposed m k b) ta tb
    ∙ ap₂ stack (as_mat-transposed q m n a g) (as_mat-transposed q m k b h)) ∙ transpose_stack (transpose (as_mat q m n a)) (transpose (as_mat q m k b))
    ∙ ap₂ beside (transpose_transpose (as_mat q m n a)) (transpose_transpose (as_mat q m k b)))

-- the matrix of two beside each other
abbrev pub two_beside : PlainMatrix → PlainMatrix → PlainMatrix
two_beside l r = plain l.field l.row_count (l.col_count + r.col_count) (grid_of (beside (typed l) (as_mat l.field l.row_count r.col_count r.rows)))

pub beside_by_columns : (l r tl tr s t : PlainMatrix) → IsMatrix l → IsMatrix r → r.field ≡ l.field → r.row_count ≡ l.row_count → tl ≡ plain l.field l.col_count l.row_count (transposed l.row_count l.col_count l.rows)
    → tr ≡ plain r.field r.col_count r.row_count (transposed r.row_count r.col_count r.rows) → s ≡ plain tl.field (tl.row_count + tr.row_count) tl.col_count (tl.rows ++ tr.rows)
    → t ≡ plain s.field s.col_count s.row_count (transposed s.row_count s.col_count s.rows) → t ≡ two_beside l r
beside_by_columns l r tl tr s t L R f m el er es et =
    et ∙ ap (λ (s : PlainMatrix). plain s.field s.col_count s.row_count (transposed s.row_count s.col_count s.rows)) (es ∙ ap₂ (λ (x y : PlainMatrix). plain x.field (x.row_count + y.row_count) x.col_count (x.rows ++ y.rows)) el er)
    ∙ ap (λ (m : ℕ). plain l.field l.row_count (l.col_count + r.col_count) (transposed (l.col_count + r.col_count) l.row_count (transposed l.row_count l.col_count l.rows ++ transposed m r.col_count r.rows))) m
    ∙ ap (plain l.field l.row_count (l.col_count + r.col_count)) (grids_beside l.field l.row_count l.col_count r.col_count l.rows r.rows L.grid
    (subst (λ (k : ℕ). IsGrid l.field k r.col_count r.rows) m (subst (λ (q : Gf). IsGrid q r.row_count r.col_count r.rows) f R.grid)))

grids_below : {q : Gf} {m k n : ℕ} (a : Mat q m n) (b : Mat q k n) → grid_of a ++ grid_of b ≡ grid_of (stack a b)
grids_below {q} {m} {k} {n} a b =
    sym (grid_of-as_mat q (m + k) n (grid_of a ++ grid_of b) (IsGrid-append q m k n (grid_of a) (grid_of b) (IsGrid-grid_of a) (IsGrid-grid_of b)))
    ∙ ap grid_of (as_mat-append q m k n (grid_of a) (grid_of b) (IsGrid-grid_of a) (IsGrid-grid_of b) ∙ ap₂ stack (as_mat-grid_of a) (as_mat-grid_of b))

-- two blocks on the diagonal
abbrev pub on_diagonal : PlainMatrix → PlainMatrix → PlainMatrix
on_diagonal a b = plain a.field (a.row_count + b.row_count) (a.col_count + b.col_count) (grid_of (diagonal (typed a) (as_mat a.field b.row_count b.col_count b.rows)))

pub diagonal_by_blocks : (a b right above left below blocks : PlainMatrix) → b.field ≡ a.field → right ≡ plain a.field a.row_count b.col_count (zero_rows a.row_count b.col_count) → above ≡ two_beside a right
    → left ≡ plain a.field b.row_count a.col_count (zero_rows b.row_count a.col_count) → below ≡ two_beside left b
    → blocks ≡ plain above.field (above.row_count + below.row_count) above.col_count (above.rows ++ below.rows) → blocks ≡ on_diagonal a b
unfolding diagonal
diagonal_by_blocks a b right above left below blocks f er ea el eb es =
    let q = a.field in
    let up = ea ∙ ap (two_beside a) er ∙ ap (λ z. plain q a.row_count (a.col_count + b.col_count) (grid_of (beside (typed a) z))) (zero_typed q a.row_count b.col_count) in
    let down = eb ∙ ap (λ l. two_beside l b) el ∙ ap (λ z. plain q b.row_count (a.col_count + b.col_count) (grid_of (beside z (as_mat q b.row_count b.col_count b.rows)))) (zero_typed q b.row_count a.col_count) in
    es ∙ ap₂ (λ (x y : PlainMatrix). plain x.field (x.row_count + y.row_count) x.col_count (x.rows ++ y.rows)) up down
    ∙ ap (plain q (a.row_count + b.row_count) (a.col_count + b.col_count))
    (grids_below (beside (typed a) (zero_matrix_of q a.row_count b.col_count)) (beside (zero_matrix_of q b.row_count a.col_count) (as_mat q b.row_count b.col_count b.rows)))

-- Blocks of matrices of modules are small.
pub few_blocks : (m n k : ℕ) → m ≤ 256 → n ≤ 256 → k ≤ 256 → (m + n) * k ≤ most_entries
few_blocks m n k x y z =
    let s : m + n ≤ 512 = omega arith in
    let e : (m + n) * k ≤ 512 * 256 = mul-le-mul s z in
    omega (arith, e)

pub few_product : (m n : ℕ) → m ≤ 256 → n ≤ 256 → m * n ≤ most_entries
few_product m n x y = let e : m * n ≤ 256 * 256 = mul-le-mul x y in omega (arith, e)
