-- From what elimination leaves to the forms.
use Rattle.std.proofs.Common.{ℕ, ◌≡◌, ◌≤◌, ◌*◌, List, length, take, sym, ap, ◌∙◌, arith, subst, mul-le-mul_right}
use Rattle.std.proofs.lemmas.List.{length-take-le}
use Rattle.linear_algebra.specs.Field.{Gf}
use Rattle.linear_algebra.specs.Rows.{IsGrid, rows_of}
use Rattle.linear_algebra.specs.Reduced.{ReducesTo, pivot}
use Rattle.linear_algebra.specs.Typed.{as_mat}
use Rattle.linear_algebra.proofs.Reduced.{IsGrid-take}
use Rattle.linear_algebra.proofs.RowFormUnique.{row_reduced-as_mat}
use Rattle.linear_algebra.proofs.Typed.{same_span_forth, same_span_back}
use Rattle.fp_linear.specs.Matrix.{PlainMatrix, plain, IsMatrix, most_entries}
use Rattle.fp_linear.specs.Slices.{AreElements}
use Rattle.fp_linear.proofs.Cells.{IsGrid-rows_of}
use Rattle.row_spaces.specs.RowSpaces.{typed, IsRowFormOf}
use Rattle.row_spaces.specs.FreeColumns.{AreFree, AreFunctionals, IsOrthogonalBasis}
use Rattle.row_spaces.proofs.OrthogonalRows.{orthogonal_basis}

pub rank_fits : (q : Gf) (m n : ℕ) (old new : List (List ℕ)) (pivots : List ℕ) (rank : ℕ) → IsGrid q m n new → ReducesTo q n old new pivots rank → rank ≤ m
rank_fits q m n old new pivots rank g r = let f = r.fits in let c = g.count in omega arith

-- The first rows are the basis in reduced row form.
pub row_form_of : (q : Gf) (m n : ℕ) (old new : List (List ℕ)) (pivots : List ℕ) (rank : ℕ) → IsGrid q m n old → IsGrid q m n new → ReducesTo q n old new pivots rank
    → IsRowFormOf (as_mat q m n old) (as_mat q rank n (take rank new))
row_form_of q m n old new pivots rank g h r =
    let t = IsGrid-take q m n rank new h (rank_fits q m n old new pivots rank h r) in
    record {
      reduced = (pivot (take rank new), row_reduced-as_mat q rank n (take rank new) t r.reduced);
      spans = same_span_forth q m rank n old (take rank new) g t r.span;
      spanned = same_span_back q m rank n old (take rank new) g t r.span;
    }

pub IsMatrix-take : (m : PlainMatrix) (k : ℕ) → k ≤ m.row_count → IsMatrix m → IsMatrix (plain m.field k m.col_count (take k m.rows))
IsMatrix-take m k fits h = record {
  grid = IsGrid-take m.field m.row_count m.col_count k m.rows h.grid fits;
  fits = let f = h.fits in let b = mul-le-mul_right m.col_count fits in omega arith;
}

-- A matrix that keeps its field and counts while its rows change.
pub same_shape : (old new : PlainMatrix) → new ≡ plain old.field old.row_count old.col_count new.rows → IsMatrix new → IsGrid old.field old.row_count old.col_count new.rows
same_shape old new e h = subst (λ (x : PlainMatrix). IsGrid x.field x.row_count x.col_count new.rows) e h.grid

pub row_form_in_place : (old new : PlainMatrix) (pivots : List ℕ) (rank : ℕ) → new ≡ plain old.field old.row_count old.col_count new.rows → IsMatrix old → IsMatrix new
    → ReducesTo old.field old.col_count old.rows new.rows pivots rank → IsRowFormOf (typed old) (as_mat old.field rank old.col_count (take rank new.rows))
row_form_in_place old new pivots rank e h k r = row_form_of old.field old.row_count old.col_count old.rows new.rows pivots rank h.grid (same_shape old new e k) r

-- The rows of the free columns of what elimination leaves in place.
orthogonal_lent : (old new : PlainMatrix) (pivots taken free s : List ℕ) (rank : ℕ) → new ≡ plain old.field old.row_count old.col_count new.rows → IsMatrix old → IsMatrix new
    → ReducesTo old.field old.col_count old.rows new.rows pivots rank → taken ≡ take rank pivots → rank ≤ length pivots → AreFree old.col_count taken free
    → AreFunctionals new.field new.col_count (take (length taken) new.rows) free s → AreElements new.field s
    → IsOrthogonalBasis (typed old) (as_mat old.field (length free) old.col_count (rows_of (length free) old.col_count s))
orthogonal_lent old new pivots taken free s rank e h k r te fits a f small =
    let fe = ap (λ (x : PlainMatrix). x.field) e in
    let ce = ap (λ (x : PlainMatrix). x.col_count) e in
    let count : length taken ≡ rank = ap length te ∙ length-take-le rank pivots fits in
    let grid = same_shape old new e k in
    let there : AreFunctionals old.field old.col_count (take rank new.rows) free s = subst (λ (m : ℕ). AreFunctionals old.field old.col_count (take m new.rows) free s) count (subst (λ (n : ℕ). AreFunctionals old.field n (take (length taken) new.rows) free s) ce
    (subst (λ (q : Gf). AreFunctionals q new.col_count (take (length taken) new.rows) free s) fe f)) in
    orthogonal_basis old.field old.row_count old.col_count rank old.rows (take rank new.rows) taken free s h.grid (IsGrid-take old.field old.row_count old.col_count rank new.rows grid (rank_fits old.field old.row_count old.col_count old.rows new.rows pivots rank grid r))
    r.reduced r.span (te ∙ r.columns) a there (subst (λ (q : Gf). AreElements q s) fe small)

pub orthogonal_in_place : (old new : PlainMatrix) (pivots taken free s : List ℕ) (rank k w : ℕ) → new ≡ plain old.field old.row_count old.col_count new.rows → IsMatrix old → IsMatrix new
    → ReducesTo old.field old.col_count old.rows new.rows pivots rank → taken ≡ take rank pivots → length pivots ≡ old.row_count → k ≡ length free → w ≡ old.col_count → AreFree w taken free
    → AreFunctionals new.field new.col_count (take (length taken) new.rows) free s → AreElements new.field s
    → IsOrthogonalBasis (typed old) (as_mat old.field k old.col_count (rows_of k w s))
orthogonal_in_place old new pivots taken free s rank k w e h i r te room ke we a f small =
    let fits : rank ≤ length pivots = (let b = rank_fits old.field old.row_count old.col_count old.rows new.rows pivots rank (same_shape old new e i) r in omega arith) in
    subst (λ (w : ℕ). IsOrthogonalBasis (typed old) (as_mat old.field k old.col_count (rows_of k w s))) (sym we)
    (subst (λ (k : ℕ). IsOrthogonalBasis (typed old) (as_mat old.field k old.col_count (rows_of k old.col_count s))) (sym ke)
    (orthogonal_lent old new pivots taken free s rank e h i r te fits (subst (λ (w : ℕ). AreFree w taken free) we a) f small))

-- As many rows as free columns fit into a matrix.
pub free_fit : (k n w most : ℕ) → k ≤ n → w ≡ n → n * n ≤ most → k * w ≤ most
free_fit k n w most h e f = let b = mul-le-mul_right n h in subst (λ (w : ℕ). k * w ≤ most) (sym e) (omega arith)

pub IsMatrix-written : (q : Gf) (k w : ℕ) (s : List ℕ) → AreElements q s → k * w ≤ most_entries → IsMatrix (plain q k w (rows_of k w s))
IsMatrix-written q k w s a fits = record { grid = IsGrid-rows_of q k w s a; fits = fits }
