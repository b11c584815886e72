-- Sums of products, one more product at a time; and the products of typed matrices that they are.
use Rattle.std.proofs.Common.{ℕ, ◌≡◌, ◌<◌, ◌≤◌, ◌+◌, ◌*◌, List, get_or, inl, inr, sym, ap, ap₂, ◌∙◌, arith, subst, add-one}
use Rattle.std.specs.Prelude.{slice_index}
use Rattle.std.proofs.lemmas.Bool.{cases_eq}
use Rattle.linear_algebra.specs.Field.{Gf, add, mul}
use Rattle.linear_algebra.specs.Sums.{sum-suc, sum-same}
use Rattle.linear_algebra.specs.Matrix.{Mat, Mat-eq_below, zeros, ◌·◌, transpose}
use Rattle.linear_algebra.specs.Rows.{entry}
use Rattle.linear_algebra.proofs.MatrixLaws.{transpose-at}
use Rattle.fp_linear.specs.Matrix.{PlainMatrix}
use Rattle.fp_linear.specs.Slices.{IsWritten}
use Rattle.fp_linear.proofs.Cells.{cell-is}
use Rattle.module_checks.proofs.HomRank.{IsPlainOf}
use Rattle.module_checks.proofs.Squares.{product_typed}
use Rattle.term_rows.specs.TermCells.{FirstRows}
use Rattle.translate_checks.specs.Dots.{row_dot, column_dot, VanishOnRows, RowsVanishOn, HoldsRow, HoldsColumn}
use Rattle.translate_checks.specs.Squares.{AgreeInColumn, AgreeInRow, AgreeOnColumns, AgreeOnRows}

from_zero : (i : ℕ) → ◌≡◌ {A = ℕ} (0 + i) i
from_zero i = omega arith

pub written_from_start : (old new row : List ℕ) (at n : ℕ) → IsWritten old new at n (λ c. slice_index row (0 + c)) → IsWritten old new at n (slice_index row)
written_from_start old new row at n w = record { within = λ j l. w.within j l ∙ ap (slice_index row) (from_zero j); before = w.before; after = w.after }

pub row_dot-more : (q : Gf) (n : ℕ) (a : PlainMatrix) (r : ℕ) (s : List ℕ) (start : ℕ) → row_dot q (n + 1) a r s start ≡ add q (row_dot q n a r s start) (mul q (entry a.rows r n) (get_or s (start + n) 0))
row_dot-more q n a r s start = rw add-one (sum-suc q n _)

pub column_dot-more : (q : Gf) (n : ℕ) (s : List ℕ) (start : ℕ) (a : PlainMatrix) (j : ℕ) → column_dot q (n + 1) s start a j ≡ add q (column_dot q n s start a j) (mul q (get_or s (start + n) 0) (entry a.rows n j))
column_dot-more q n s start a j = rw add-one (sum-suc q n _)

module _ {q : Gf} {l m n : ℕ} (f : Mat q l m) (p : PlainMatrix) (x : IsPlainOf p f) where
  -- a row times a column that stands in a slice; a row that stands in a slice times a column
  row_typed : (g : Mat q m n) (j start : ℕ) (s : List ℕ) (r : ℕ) → ((i : ℕ) → i < m → slice_index s (start + i) ≡ g.at i j) → row_dot q p.col_count p r s start ≡ (f · g).at r j
  unfolding ◌·◌
  row_typed g j start s r e = ap (λ k. row_dot q k p r s start) x.col_count ∙ sum-same q m _ _ (λ i b. ap₂ (mul q) (x.entries r i) (e i b))

  column_typed : (g : Mat q n l) (i start : ℕ) (s : List ℕ) (j : ℕ) → ((t : ℕ) → t < l → slice_index s (start + t) ≡ g.at i t) → column_dot q p.row_count s start p j ≡ (g · f).at i j
  unfolding ◌·◌
  column_typed g i start s j e = ap (λ k. column_dot q k s start p j) x.row_count ∙ sum-same q l _ _ (λ t b. ap₂ (mul q) (e t b) (x.entries t j))

  -- products with a matrix that stands in a slice, transposed and as it is
  module _ (g : Mat q n m) (s : List ℕ) (count width : ℕ) (ne : n ≡ count) (me : m ≡ width) (F : FirstRows g width count s) where
    held : (c i : ℕ) → c < n → i < m → slice_index s (c * p.col_count + i) ≡ (transpose g).at i c
    held c i l b = ap (λ k. slice_index s (c * k + i)) (x.col_count ∙ me) ∙ sym (cell-is width s c i) ∙ F.at c i (omega (arith, ne, l)) (omega (arith, me, b)) ∙ sym (transpose-at g i c)

    pub vanish_zero : VanishOnRows q p s count → f · transpose g ≡ zeros q l n
    unfolding zeros
    vanish_zero z = Mat-eq_below _ _ (λ r c u v. sym (row_typed (transpose g) c (c * p.col_count) s r (λ i b. held c i v b)) ∙ (z.each c (omega (arith, ne, v))).at r (omega (arith, x.row_count, u)))

    pub zero_vanish : f · transpose g ≡ zeros q l n → VanishOnRows q p s count
    unfolding zeros
    zero_vanish e = record {
      each = λ c v. record { at = λ r u. row_typed (transpose g) c (c * p.col_count) s r (λ i b. held c i (omega (arith, ne, v)) b) ∙ ap (λ (z : Mat q l n). z.at r c) e };
    }

  module _ (g : Mat q n l) (s : List ℕ) (count width : ℕ) (ne : n ≡ count) (me : l ≡ width) (F : FirstRows g width count s) where
    held_row : (c i : ℕ) → c < n → i < l → slice_index s (c * p.row_count + i) ≡ g.at c i
    held_row c i b k = ap (λ d. slice_index s (c * d + i)) (x.row_count ∙ me) ∙ sym (cell-is width s c i) ∙ F.at c i (omega (arith, ne, b)) (omega (arith, me, k))

    pub rows_zero : RowsVanishOn q s p count → g · f ≡ zeros q n m
    unfolding zeros
    rows_zero z = Mat-eq_below _ _ (λ c j u v. sym (column_typed g c (c * p.row_count) s j (λ i b. held_row c i u b)) ∙ (z.each c (omega (arith, ne, u))).at j (omega (arith, x.col_count, v)))

    pub zero_rows : g · f ≡ zeros q n m → RowsVanishOn q s p count
    unfolding zeros
    zero_rows e = record {
      each = λ c v. record { at = λ j u. column_typed g c (c * p.row_count) s j (λ i b. held_row c i (omega (arith, ne, v)) b) ∙ ap (λ (z : Mat q n m). z.at c j) e };
    }

-- one column, and one row, of a square
module _ {q : Gf} {l m n k : ℕ} (x : Mat q l m) (t : Mat q m n) (s : Mat q l k) (y : Mat q k n) (xp tp sp : PlainMatrix) (ex : IsPlainOf xp x) (et : IsPlainOf tp t) (es : IsPlainOf sp s) (j : ℕ) (values : List ℕ)
    (v : HoldsColumn y j values) where
  pub column_yes : AgreeInColumn q xp tp sp j values xp.row_count → AgreeOnColumns (x · t) (s · y) j → AgreeOnColumns (x · t) (s · y) (j + 1)
  column_yes a before = record {
    at = λ r i u b. elim (cases_eq i j) [
      | inl e ↦ subst (λ i. (x · t).at r i ≡ (s · y).at r i) (sym e) (sym (product_typed x t xp tp ex et r j) ∙ a.at r (omega (arith, ex.row_count, u)) ∙ row_typed s sp es y j 0 values r (λ i b. ap (slice_index values) (from_zero i) ∙ v.at i))
      | inr d ↦ before.at r i u (omega arith)
    ];
  }

  pub column_no : x · t ≡ s · y → AgreeInColumn q xp tp sp j values xp.row_count
  column_no e = record { at = λ r u. product_typed x t xp tp ex et r j ∙ ap (λ (z : Mat q l n). z.at r j) e ∙ sym (row_typed s sp es y j 0 values r (λ i b. ap (slice_index values) (from_zero i) ∙ v.at i)) }

module _ {q : Gf} {l m n k : ℕ} (x : Mat q l m) (t : Mat q m n) (s : Mat q l k) (y : Mat q k n) (tp sp yp : PlainMatrix) (et : IsPlainOf tp t) (es : IsPlainOf sp s) (ey : IsPlainOf yp y) (j : ℕ) (values : List ℕ)
    (v : HoldsRow x j values) where
  pub row_yes : AgreeInRow q values tp sp yp j tp.col_count → AgreeOnRows (x · t) (s · y) j → AgreeOnRows (x · t) (s · y) (j + 1)
  row_yes a before = record {
    at = λ r i u b. elim (cases_eq r j) [
      | inl e ↦ subst (λ r. (x · t).at r i ≡ (s · y).at r i) (sym e) (sym (column_typed t tp et x j 0 values i (λ c b. ap (slice_index values) (from_zero c) ∙ v.at c)) ∙ a.at i (omega (arith, et.col_count, b)) ∙ product_typed s y sp yp es ey j i)
      | inr d ↦ before.at r i (omega arith) b
    ];
  }

  pub row_no : x · t ≡ s · y → AgreeInRow q values tp sp yp j tp.col_count
  row_no e = record { at = λ i b. column_typed t tp et x j 0 values i (λ c b. ap (slice_index values) (from_zero c) ∙ v.at c) ∙ ap (λ (z : Mat q l n). z.at j i) e ∙ sym (product_typed s y sp yp es ey j i) }

pub agree_columns : {q : Gf} {l m : ℕ} (f g : Mat q l m) (n : ℕ) → m ≤ n → AgreeOnColumns f g n → f ≡ g
agree_columns f g n b a = Mat-eq_below _ _ (λ r j u v. a.at r j u (omega arith))

pub agree_rows : {q : Gf} {l m : ℕ} (f g : Mat q l m) (n : ℕ) → l ≤ n → AgreeOnRows f g n → f ≡ g
agree_rows f g n b a = Mat-eq_below _ _ (λ r j u v. a.at r j (omega arith) v)

pub no_columns : {q : Gf} {l m : ℕ} (f g : Mat q l m) → AgreeOnColumns f g 0
no_columns f g = record { at = λ r j u v. absurd (omega arith) }

pub no_rows : {q : Gf} {l m : ℕ} (f g : Mat q l m) → AgreeOnRows f g 0
no_rows f g = record { at = λ r j u v. absurd (omega arith) }
