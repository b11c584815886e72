-- What vanishes where a co-reduced matrix does is that matrix and then its rows at the places.
use Rattle.std.proofs.Common.{ℕ, ◌<◌, ◌≤◌, ◌≡◌, ◌+◌, ◌*◌, List, [], ◌++◌, get_or, sym, ap, ◌∙◌, arith, mul-le-mul_right}
use Rattle.linear_algebra.specs.Field.{Gf}
use Rattle.linear_algebra.specs.Matrix.{Mat, Row, Mat-eq_below, zeros, ◌·◌}
use Rattle.linear_algebra.specs.MatrixLaws.{mul_assoc_mat, one_mul_mat}
use Rattle.linear_algebra.specs.RowForm.{IsCoReduced}
use Rattle.linear_algebra.specs.Rows.{entry, IsGrid, rows_of}
use Rattle.linear_algebra.specs.Typed.{as_mat}
use Rattle.linear_algebra.proofs.CoReduced.{place_rows, place_rows_undo}
use Rattle.linear_algebra.proofs.CoReducedUnique.{place_rows-at}
use Rattle.linear_algebra.proofs.Exactness.{through_surjection}
use Rattle.linear_algebra.proofs.KernelsBySize.{coreduced_surjective}
use Rattle.linear_algebra.proofs.Rows.{row-entry, entry-rows_of}
use Rattle.linear_algebra.proofs.Steinitz.{steinitz}
use Rattle.linear_algebra.proofs.Typed.{as_mat-entry}
use Rattle.fp_linear.proofs.Cells.{IsGrid-rows_of}
use Rattle.row_spaces.specs.RowSpaces.{IsFactor}
use Rattle.row_spaces.specs.PushedRows.{HasRows, chosen_entry}
use Rattle.row_spaces.proofs.PushedRows.{HasRows-more, AreElements-row}

module _ {q : Gf} {k n c : ℕ} (onto : Mat q n c) (place : ℕ → ℕ) (d : IsCoReduced onto place) (y : Mat q n k) (h : (x : Row q n) → x · onto ≡ zeros q 1 c → x · y ≡ zeros q 1 k) where
  pub chosen_factor : (f : Mat q c k) → ((i j : ℕ) → i < c → j < k → f.at i j ≡ y.at (place i) j) → IsFactor onto y f
  chosen_factor f e =
      let undo = place_rows_undo onto place d in
      let chosen : f ≡ place_rows q c n place · y = Mat-eq_below _ _ (λ i j l b. e i j l b ∙ sym (place_rows-at c place y i j l (d.inside i l))) in
      record {
        compose = ap (λ z. onto · z) chosen ∙ through_surjection onto (place_rows q c n place) undo y h;
        once = λ x g. sym (one_mul_mat x) ∙ ap (λ z. z · x) (sym undo) ∙ mul_assoc_mat (place_rows q c n place) onto x ∙ ap (λ z. place_rows q c n place · z) g ∙ sym chosen;
      }

-- There are no more columns than rows, so that there is room.
pub chosen_fit : {q : Gf} {n c : ℕ} (onto : Mat q n c) (place : ℕ → ℕ) → IsCoReduced onto place → (k most : ℕ) → n * k ≤ most → c * k ≤ most
chosen_fit onto place d k most f =
    let s = coreduced_surjective onto place d in
    let few = steinitz s.inverse onto s.is in
    let b = mul-le-mul_right k few in omega arith

pub HasRows-chosen : (q : Gf) (m n r p : ℕ) (rows : List (List ℕ)) (places s : List ℕ) → IsGrid q m n rows → p ≡ get_or places r 0 → p < m → HasRows q n r (chosen_entry rows places) s
    → HasRows q n (r + 1) (chosen_entry rows places) (s ++ get_or rows p [])
HasRows-chosen q m n r p rows places s g e l h = HasRows-more q n r (chosen_entry rows places) s (get_or rows p []) (g.width p l) (AreElements-row q m n p rows g) (λ j b. row-entry rows p j ∙ ap (λ t. entry rows t j) e) h

pub rows_factor : (q : Gf) (n c k : ℕ) (onto : Mat q n c) (all : List (List ℕ)) (places s : List ℕ) → IsCoReduced onto (λ i. get_or places i 0) → IsGrid q n k all
    → ((x : Row q n) → x · onto ≡ zeros q 1 c → x · as_mat q n k all ≡ zeros q 1 k) → HasRows q k c (chosen_entry all places) s → IsFactor onto (as_mat q n k all) (as_mat q c k (rows_of c k s))
rows_factor q n c k onto all places s d g h r = chosen_factor onto (λ i. get_or places i 0) d (as_mat q n k all) h (as_mat q c k (rows_of c k s)) (λ i j l b.
    as_mat-entry q c k (rows_of c k s) (IsGrid-rows_of q c k s r.elements) i j ∙ entry-rows_of c k s i j l b ∙ r.at i j l b ∙ sym (as_mat-entry q n k all g (get_or places i 0) j))
