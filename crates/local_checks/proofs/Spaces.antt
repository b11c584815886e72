-- Spaces of rows: remainders, and members.
use Rattle.std.proofs.Common.{ℕ, ◌<◌, ◌≡◌, ◌+◌, ◌*◌, List, length, get_or, sym, ap, ap₂, ◌∙◌, arith, subst}
use Rattle.std.specs.Prelude.{Bool, true, false, MatchBool}
use Rattle.linear_algebra.specs.Field.{Gf, sub, order}
use Rattle.linear_algebra.specs.Matrix.{Row, zeros, ◌⊟◌, ◌·◌}
use Rattle.linear_algebra.specs.Rows.{IsRow, IsGrid, rows_of, times}
use Rattle.linear_algebra.specs.Reduced.{pivot, at_pivots, remainder}
use Rattle.linear_algebra.specs.Rank.{IsInSpan, HasRightInverse}
use Rattle.linear_algebra.specs.RowForm.{IsRowReduced}
use Rattle.linear_algebra.specs.Typed.{as_row}
use Rattle.linear_algebra.proofs.MatrixLaws.{sub-at, sub_eq_zeros, sub_mul_mat, zeros_mul}
use Rattle.linear_algebra.proofs.PartsLaws.{Row-eq}
use Rattle.linear_algebra.proofs.Typed.{as_row-entry, as_mat-entry, as_row-times}
use Rattle.linear_algebra.proofs.Rows.{IsRow-times, length-rows_of}
use Rattle.linear_algebra.proofs.ReducedSpans.{get_or-remainder, length-remainder, remainder-small, remainder-at_pivot}
use Rattle.linear_algebra.proofs.RowForm.{reduced_independent}
use Rattle.linear_algebra.proofs.RowFormUnique.{row_reduced-as_mat, combination-at}
use Rattle.fp_linear.specs.Slices.{AreElements}
use Rattle.fp_linear.proofs.Cells.{IsGrid-rows_of, cell-entry, cell-is}
use Rattle.module_checks.specs.RowWalks.{AreAllZero}
use Rattle.local_checks.specs.Standing.{standing, IsSpace, space}

pub standing-at : (q : Gf) (m n : ℕ) (s : List ℕ) → AreElements q s → (i j : ℕ) → i < m → j < n → (standing q m n s).at i j ≡ get_or s (i * n + j) 0
standing-at q m n s a i j h k = as_mat-entry q m n (rows_of m n s) (IsGrid-rows_of q m n s a) i j ∙ cell-entry m n s i j h k ∙ cell-is n s i j

pub row_of : (q : Gf) (n : ℕ) (x : List ℕ) → AreElements q x → length x ≡ n → IsRow q n x
row_of q n x a e = record { count = e; small = a.small }

pub as_row_is : (q : Gf) (n : ℕ) (x : List ℕ) → AreElements q x → length x ≡ n → (j : ℕ) → (as_row q n x).at 0 j ≡ get_or x j 0
as_row_is q n x a e j = as_row-entry q n x (row_of q n x a e) j

pub zero_row : (q : Gf) (n : ℕ) (x : List ℕ) → AreElements q x → length x ≡ n → AreAllZero x → as_row q n x ≡ zeros q 1 n
unfolding zeros
zero_row q n x a e z = Row-eq _ _ (λ j l. as_row_is q n x a e j ∙ z.at j)

pub row_zero : (q : Gf) (n : ℕ) (x : List ℕ) → AreElements q x → length x ≡ n → as_row q n x ≡ zeros q 1 n → AreAllZero x
unfolding zeros
row_zero q n x a e z = record { at = λ j. sym (as_row_is q n x a e j) ∙ ap (λ (w : Row q n). w.at 0 j) z }

module _ (q : Gf) (n : ℕ) (rows pivots : List ℕ) (S : IsSpace q n rows pivots) where
  -- the places of the pivots
  abbrev pub place : ℕ → ℕ
  place i = pivot (rows_of (length pivots) n rows) i

  grid : IsGrid q (length pivots) n (rows_of (length pivots) n rows)
  grid = IsGrid-rows_of q (length pivots) n rows S.elements

  pub space_reduced : IsRowReduced (space q n rows pivots) place
  space_reduced = row_reduced-as_mat q (length pivots) n (rows_of (length pivots) n rows) grid S.reduced

  pub space_independent : HasRightInverse (space q n rows pivots)
  space_independent = reduced_independent (space q n rows pivots) place space_reduced

  module _ (x y : List ℕ) (a : AreElements q x) (e : length x ≡ n) (d : y ≡ remainder q n (rows_of (length pivots) n rows) x) where
    abbrev pub coefficients : Row q (length pivots)
    coefficients = as_row q (length pivots) (at_pivots (rows_of (length pivots) n rows) x)

    pub remainder_length : length y ≡ n
    remainder_length = ap length d ∙ length-remainder q n (rows_of (length pivots) n rows) x

    pub remainder_row : IsRow q n y
    remainder_row = record { count = remainder_length; small = λ j. subst (λ (z : List ℕ). get_or z j 0 < order q) (sym d) (remainder-small q n (rows_of (length pivots) n rows) x j) }

    -- What is left is the row less a combination of the rows, and zero at the pivots.
    pub remainder_is : as_row q n y ≡ as_row q n x ⊟ coefficients · space q n rows pivots
    remainder_is = Row-eq _ _ (λ j l.
        as_row-entry q n y remainder_row j ∙ ap (λ (z : List ℕ). get_or z j 0) d ∙ get_or-remainder q n (rows_of (length pivots) n rows) x j l
        ∙ sym (sub-at (as_row q n x) (coefficients · space q n rows pivots) 0 j ∙ ap₂ (sub q) (as_row_is q n x a e j)
        (sym (ap (λ (z : Row q n). z.at 0 j) (as_row-times q (length pivots) n (at_pivots (rows_of (length pivots) n rows) x) (rows_of (length pivots) n rows) grid))
        ∙ as_row-entry q n (times q n (at_pivots (rows_of (length pivots) n rows) x) (rows_of (length pivots) n rows)) (IsRow-times q n (at_pivots (rows_of (length pivots) n rows) x) (rows_of (length pivots) n rows)) j)))

    pub remainder_clear : (i : ℕ) → i < length pivots → (as_row q n y).at 0 (place i) ≡ 0
    remainder_clear i h = as_row-entry q n y remainder_row (place i) ∙ ap (λ (z : List ℕ). get_or z (place i) 0) d
        ∙ remainder-at_pivot q (length pivots) n (rows_of (length pivots) n rows) x i grid S.reduced (row_of q n x a e) (let c = length-rows_of (length pivots) n rows in omega arith)

    -- The row is a member exactly where nothing is left.
    pub member_of_zero : as_row q n y ≡ zeros q 1 n → IsInSpan (space q n rows pivots) (as_row q n x)
    member_of_zero z = record { by = coefficients; is = sym (sub_eq_zeros (as_row q n x) (coefficients · space q n rows pivots) (sym remainder_is ∙ z)) }

    pub zero_of_member : IsInSpan (space q n rows pivots) (as_row q n x) → as_row q n y ≡ zeros q 1 n
    unfolding zeros
    zero_of_member s =
        let c = s.by ⊟ coefficients in
        let f : c · space q n rows pivots ≡ as_row q n y = sub_mul_mat s.by coefficients (space q n rows pivots) ∙ ap (λ w. w ⊟ coefficients · space q n rows pivots) s.is ∙ sym remainder_is in
        sym f ∙ ap (λ w. w · space q n rows pivots) (Row-eq c (zeros q 1 (length pivots)) (λ i l.
        sym (combination-at (space q n rows pivots) place space_reduced c i l) ∙ ap (λ (w : Row q n). w.at 0 (place i)) f ∙ remainder_clear i l)) ∙ zeros_mul (space q n rows pivots)

    pub member_decided : (b : Bool) → MatchBool b (AreAllZero y) (¬ AreAllZero y)
        → MatchBool b (IsInSpan (space q n rows pivots) (as_row q n x)) (¬ IsInSpan (space q n rows pivots) (as_row q n x))
    member_decided true z = member_of_zero (zero_row q n y (record { small = remainder_row.small }) remainder_length z)
    member_decided false z = λ s. z (row_zero q n y (record { small = remainder_row.small }) remainder_length (zero_of_member s))
