-- Equations, and solutions, as the code writes and reads them.
use Rattle.std.proofs.Common.{ℕ, ◌<◌, ◌≤◌, ◌≡◌, inl, inr, ◌+◌, ◌*◌, List, get_or, take, sym, ap, ◌∙◌, arith}
use Rattle.std.proofs.lemmas.Bool.{cases_lt}
use Rattle.linear_algebra.specs.Field.{Gf}
use Rattle.linear_algebra.specs.Rows.{rows_of, entry, IsGrid}
use Rattle.linear_algebra.specs.RowSolutions.{IsSolution, AreEquations, AreReducedEquations, IsReadFrom}
use Rattle.linear_algebra.specs.Reduced.{pivot}
use Rattle.linear_algebra.proofs.Rows.{length-rows_of}
use Rattle.linear_algebra.proofs.Reduced.{pivot-column, entry-take, IsGrid-take}
use Rattle.linear_algebra.proofs.SolveRows.{solve-sound, solve-none}
use Rattle.fp_linear.specs.Slices.{cell, copied, AreElements}
use Rattle.fp_linear.specs.Products.{HasColumn, HasColumns}
use Rattle.fp_linear.proofs.Cells.{cell-is, cell-entry, IsGrid-rows_of}

pub AreEquations-written : (q : Gf) (m k n : ℕ) (a y first wide : List ℕ) (f : ℕ → ℕ → ℕ) → AreElements q wide → HasColumns n 0 m (cell n a) f (cell (m + k) first) → HasColumns n m k (cell n y) (cell (m + k) first) (cell (m + k) wide)
    → AreEquations q m k n (rows_of m n a) (rows_of k n y) (rows_of n (m + k) wide)
AreEquations-written q m k n a y first wide f small l r = record {
  grid = IsGrid-rows_of q n (m + k) wide small;
  coefficient = λ t j h b. let z : 0 + j ≡ j = omega arith in cell-entry n (m + k) wide t j h (omega arith) ∙ r.kept j t b ∙ ap (cell (m + k) first t) (sym z) ∙ l.done j t b h ∙ sym (cell-entry m n a j t b h);
  constant = λ t j h b. cell-entry n (m + k) wide t (m + j) h (omega arith) ∙ r.done j t b h ∙ sym (cell-entry k n y j t b h);
}

-- one more column of the solution
pub IsReadFrom-none : (m k : ℕ) (p : ℕ → ℕ) (e : ℕ → ℕ → ℕ) (s : List ℕ) → ((t : ℕ) → get_or s t 0 ≡ 0) → IsReadFrom m k 0 p e (cell m s)
IsReadFrom-none m k p e s z = record { at = λ a l h. absurd (omega arith); elsewhere = λ l j h b n. cell-is m s l j ∙ z _ }

pub IsReadFrom-more : (m k i rank : ℕ) (p : ℕ → ℕ) (wide : List ℕ) (f g : ℕ → ℕ → ℕ) → i < rank → ((a : ℕ) → a < rank → p a < m) → ((a b : ℕ) → a < b → b < rank → p a < p b) → IsReadFrom m k i p (cell (m + k) wide) f
    → HasColumn m k (p i) (copied (i * (m + k) + m) wide) f g → IsReadFrom m k (i + 1) p (cell (m + k) wide) g
IsReadFrom-more m k i rank p wide f g hi inside ascend h w = record {
  at = λ a l b d. elim (cases_lt a i) [
    | inl u ↦ w.kept l (p a) (inside a (omega arith)) (λ e. let s = ascend a i u hi in omega arith) ∙ h.at a l u d
    | inr u ↦
        let e : a ≡ i = omega arith in
        let place : i * (m + k) + m + l ≡ i * (m + k) + (m + l) = omega arith in
        ap (λ a. g l (p a)) e ∙ w.written l d ∙ ap (λ t. get_or wide t 0) place ∙ sym (cell-is (m + k) wide i (m + l)) ∙ ap (λ a. cell (m + k) wide a (m + l)) (sym e)
  ];
  elsewhere = λ l j b d none. w.kept l j d (λ e. none i (omega arith) (sym e)) ∙ h.elsewhere l j b d (λ a u. none a (omega arith));
}

-- what the reduced equations say
pub solution-of : (q : Gf) (m k n rank : ℕ) (a y : List (List ℕ)) (wide ps x : List ℕ) → IsGrid q m n a → IsGrid q k n y → AreElements q wide → AreReducedEquations q m k n a y (rows_of n (m + k) wide) ps rank
    → ((i : ℕ) → i < rank → get_or ps i 0 < m) → AreElements q x → IsReadFrom m k rank (λ i. get_or ps i 0) (cell (m + k) wide) (cell m x) → IsSolution q k m n a y (rows_of k m x)
solution-of q m k n rank a y wide ps x ga gy small r left sx read =
    solve-sound q m k n rank a y r.start (take rank (rows_of n (m + k) wide)) (rows_of k m x) ga gy r.equations (IsGrid-take q n (m + k) rank (rows_of n (m + k) wide) (IsGrid-rows_of q n (m + k) wide small) most) r.form.reduced r.form.span
    (λ i l. rw (← (column i l)) (left i l)) (IsGrid-rows_of q k m x sx)
    record {
      at = λ i l h b.
          ap (entry (rows_of k m x) l) (sym (column i h)) ∙ cell-entry k m x l (get_or ps i 0) b (left i h) ∙ read.at i l h b
          ∙ sym (entry-take rank (rows_of n (m + k) wide) i (m + l) h ∙ cell-entry n (m + k) wide i (m + l) (let o = most in omega arith) (omega arith));
      elsewhere = λ l j b d none. cell-entry k m x l j b d ∙ read.elsewhere l j b d (λ i h e. none i h (sym (column i h) ∙ e));
    }
  where
    most : rank ≤ n
    most = let c = length-rows_of n (m + k) wide in let o = r.form.fits in omega arith

    column : (i : ℕ) → i < rank → get_or ps i 0 ≡ pivot (take rank (rows_of n (m + k) wide)) i
    column i l = pivot-column q (m + k) r.start (rows_of n (m + k) wide) ps rank i r.form l

pub no_solution-of : (q : Gf) (m k n rank i : ℕ) (a y x : List (List ℕ)) (wide ps : List ℕ) → IsGrid q m n a → IsGrid q k n y → AreElements q wide → AreReducedEquations q m k n a y (rows_of n (m + k) wide) ps rank
    → i < rank → m ≤ get_or ps i 0 → IsSolution q k m n a y x → ⊥
no_solution-of q m k n rank i a y x wide ps ga gy small r h b s =
    solve-none q m k n rank i a y r.start (take rank (rows_of n (m + k) wide)) x ga gy r.equations
    (IsGrid-take q n (m + k) rank (rows_of n (m + k) wide) (IsGrid-rows_of q n (m + k) wide small) (let c = length-rows_of n (m + k) wide in let o = r.form.fits in omega arith)) r.form.reduced r.form.span h
    (rw (← (pivot-column q (m + k) r.start (rows_of n (m + k) wide) ps rank i r.form h)) b) s
