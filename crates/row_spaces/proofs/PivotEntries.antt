-- Coordinates in a basis in reduced row form are read at its pivots.
use Rattle.std.proofs.Common.{ℕ, ◌<◌, ◌≤◌, ◌≡◌, ◌+◌, ◌*◌, inl, inr, List, [], ◌∷◌, ◌++◌, map, length, get_or, slice_index, sym, ap, ◌∙◌, arith, subst, length-append, mul-le-mul_left}
use Rattle.std.proofs.Math.Seq.{get_or-append_seam}
use Rattle.std.proofs.lemmas.Bool.{cases_lt}
use Rattle.std.proofs.lemmas.List.{ext_get_or, get_or_append_left, get_or-map, length-map, get_or_past}
use Rattle.linear_algebra.specs.Field.{Gf}
use Rattle.linear_algebra.specs.FieldLaws.{order-pos}
use Rattle.linear_algebra.specs.Matrix.{Mat, Mat-eq_below, ◌·◌}
use Rattle.linear_algebra.specs.Rank.{IsInSpan}
use Rattle.linear_algebra.specs.RowForm.{IsRowReduced, selector}
use Rattle.linear_algebra.specs.Rows.{entry, IsRow, IsGrid, rows_of}
use Rattle.linear_algebra.specs.Reduced.{leading, pivot, pivots_of}
use Rattle.linear_algebra.specs.Typed.{as_mat, as_row}
use Rattle.linear_algebra.proofs.Reduced.{leading_is}
use Rattle.linear_algebra.proofs.RowForm.{mul_selector-at, reduced_coefficients, reduced_independent}
use Rattle.linear_algebra.proofs.Rows.{row-entry, entry-rows_of}
use Rattle.linear_algebra.proofs.Steinitz.{steinitz}
use Rattle.linear_algebra.proofs.Typed.{as_mat-entry, as_row-entry}
use Rattle.fp_linear.specs.Slices.{AreElements}
use Rattle.fp_linear.proofs.Cells.{IsGrid-rows_of}
use Rattle.row_spaces.specs.RowSpaces.{AreCoordinates}
use Rattle.row_spaces.specs.PushedRows.{HasLeading, HasRows, picked_entry}
use Rattle.row_spaces.proofs.PushedRows.{HasRows-more}

pub HasLeading-none : (rows : List (List ℕ)) → HasLeading rows 0 []
HasLeading-none rows = record { count = omega arith; at = λ i l. absurd (omega (arith, l)) }

pub HasLeading-more : (rows : List (List ℕ)) (k p : ℕ) (places : List ℕ) → p ≡ pivot rows k → HasLeading rows k places → HasLeading rows (k + 1) (places ++ p ∷ [])
HasLeading-more rows k p places e h = record {
  count = length-append places (p ∷ []) ∙ ap (λ n. n + 1) h.count;
  at = λ i l. elim (cases_lt i k) [
    | inl b ↦ get_or_append_left places (p ∷ []) 0 i (let c = h.count in omega arith) ∙ h.at i b
    | inr b ↦ last i (omega arith)
  ];
}
  where
    last : (i : ℕ) → k ≡ i → get_or (places ++ p ∷ []) i 0 ≡ pivot rows i
    last i same = subst (λ (i : ℕ). get_or (places ++ p ∷ []) i 0 ≡ pivot rows i) same
        (ap (λ n. get_or (places ++ p ∷ []) n 0) (sym h.count) ∙ get_or-append_seam places p [] 0 ∙ e)

pub HasLeading-all : (rows : List (List ℕ)) (places : List ℕ) → HasLeading rows (length rows) places → places ≡ pivots_of rows
unfolding pivots_of
HasLeading-all rows places h = ext_get_or 0 places (map leading rows) (h.count ∙ sym (length-map rows leading)) (λ i l. h.at i (let c = h.count in omega arith) ∙ sym (get_or-map leading rows i [] 0 (let c = h.count in omega arith)))

-- The entries at the pivots are the coordinates.
pub selected_coordinates : {q : Gf} {k m n : ℕ} (basis : Mat q m n) (p : ℕ → ℕ) → IsRowReduced basis p → (y : Mat q k n) (c : Mat q k m) → IsInSpan basis y
    → ((r i : ℕ) → r < k → i < m → c.at r i ≡ y.at r (p i)) → AreCoordinates basis y c
selected_coordinates {q} {k} {m} {n} basis p d y c s e =
    let selected : c ≡ y · selector q n m p = Mat-eq_below _ _ (λ r i h l. e r i h l ∙ sym (mul_selector-at m y p r i l (d.inside i l))) in
    record {
      combine = ap (λ z. z · basis) (selected ∙ ap (λ z. z · selector q n m p) (sym s.is) ∙ reduced_coefficients basis p d s.by) ∙ s.is;
      once = λ x f. sym (reduced_coefficients basis p d x) ∙ ap (λ z. z · selector q n m p) f ∙ sym selected;
    }

-- The pivots of a list of rows that is read as a matrix in reduced row form.
module _ (q : Gf) (m n : ℕ) (rows : List (List ℕ)) (g : IsGrid q m n rows) (p : ℕ → ℕ) (d : IsRowReduced (as_mat q m n rows) p) where
  pub pivot_read : (i : ℕ) → i < m → pivot rows i ≡ p i
  pivot_read i h =
      leading_is (get_or rows i []) (p i) (let w = g.width i h in let b = d.inside i h in omega arith)
      (λ j l. row-entry rows i j ∙ sym (as_mat-entry q m n rows g i j) ∙ d.before i j h l)
      (λ e. let one : ◌≡◌ {A = ℕ} 1 0 = sym (d.one i h) ∙ as_mat-entry q m n rows g i (p i) ∙ sym (row-entry rows i (p i)) ∙ e in omega arith)

  pub pivots_read : (i : ℕ) → i < m → get_or (pivots_of rows) i 0 ≡ p i
  unfolding pivots_of
  pivots_read i h = get_or-map leading rows i [] 0 (let c = g.count in omega arith) ∙ pivot_read i h

  pub pivots_inside : (i : ℕ) → i < length (pivots_of rows) → get_or (pivots_of rows) i 0 < n
  unfolding pivots_of
  pivots_inside i l = let h : i < m = (let c = g.count in let s = length-map rows leading in omega arith) in rw (pivots_read i h) (d.inside i h)

  pub pivots_count : length (pivots_of rows) ≡ m
  unfolding pivots_of
  pivots_count = length-map rows leading ∙ g.count

  -- the entries of a row at the pivots
  pub picked : (x : List ℕ) (i : ℕ) → i < m → get_or (map (slice_index x) (pivots_of rows)) i 0 ≡ get_or x (p i) 0
  picked x i h = get_or-map (slice_index x) (pivots_of rows) i 0 0 (let c = pivots_count in omega arith) ∙ ap (λ t. get_or x t 0) (pivots_read i h)

  pub picked_count : (x : List ℕ) → length (map (slice_index x) (pivots_of rows)) ≡ m
  picked_count x = length-map (pivots_of rows) (slice_index x) ∙ pivots_count

  pub picked_small : (x : List ℕ) → AreElements q x → AreElements q (map (slice_index x) (pivots_of rows))
  picked_small x a = record {
    small = λ k. elim (cases_lt k m) [
      | inl h ↦ rw (picked x k h) (a.small (p k))
      | inr h ↦ rw (get_or_past {X = ℕ} (map (slice_index x) (pivots_of rows)) k 0 (let c = picked_count x in omega arith)) (order-pos q)
    ];
  }

  pub picked_row : (x : List ℕ) → IsRow q n x → IsRow q m (map (slice_index x) (pivots_of rows))
  picked_row x r = record { count = picked_count x; small = λ j. (picked_small x (record { small = r.small })).small j }

  pub picked_coordinates : (x : List ℕ) → IsRow q n x → IsInSpan (as_mat q m n rows) (as_row q n x) → AreCoordinates (as_mat q m n rows) (as_row q n x) (as_row q m (map (slice_index x) (pivots_of rows)))
  picked_coordinates x r s = selected_coordinates (as_mat q m n rows) p d (as_row q n x) (as_row q m (map (slice_index x) (pivots_of rows))) s (λ t i h l. here t i h l)
    where
      here : (t i : ℕ) → t < 1 → i < m → (as_row q m (map (slice_index x) (pivots_of rows))).at t i ≡ (as_row q n x).at t (p i)
      here t i h l =
          let first : 0 ≡ t = omega arith in
          subst (λ (t : ℕ). (as_row q m (map (slice_index x) (pivots_of rows))).at t i ≡ (as_row q n x).at t (p i)) first
          (as_row-entry q m (map (slice_index x) (pivots_of rows)) (picked_row x r) i ∙ picked x i l ∙ sym (as_row-entry q n x r (p i)))

  -- Row by row.
  pub HasRows-picked : (r : ℕ) (all : List (List ℕ)) (x s : List ℕ) → x ≡ get_or all r [] → AreElements q x → HasRows q m r (picked_entry all (pivots_of rows)) s
      → HasRows q m (r + 1) (picked_entry all (pivots_of rows)) (s ++ map (slice_index x) (pivots_of rows))
  HasRows-picked r all x s e a h = HasRows-more q m r (picked_entry all (pivots_of rows)) s (map (slice_index x) (pivots_of rows)) (picked_count x) (picked_small x a)
      (λ j l. picked x j l ∙ ap (λ y. get_or y (p j) 0) e ∙ row-entry all r (p j) ∙ ap (entry all r) (sym (pivots_read j l))) h

  pub rows_coordinates : (k : ℕ) (all : List (List ℕ)) (s : List ℕ) → IsGrid q k n all → IsInSpan (as_mat q m n rows) (as_mat q k n all) → HasRows q m k (picked_entry all (pivots_of rows)) s
      → AreCoordinates (as_mat q m n rows) (as_mat q k n all) (as_mat q k m (rows_of k m s))
  rows_coordinates k all s ga i h = selected_coordinates (as_mat q m n rows) p d (as_mat q k n all) (as_mat q k m (rows_of k m s)) i (λ r j l b.
      as_mat-entry q k m (rows_of k m s) (IsGrid-rows_of q k m s h.elements) r j ∙ entry-rows_of k m s r j l b ∙ h.at r j l b ∙ ap (entry all r) (pivots_read j b) ∙ sym (as_mat-entry q k n all ga r (p j)))

  pub few_rows : m ≤ n
  few_rows = steinitz (as_mat q m n rows) (reduced_independent (as_mat q m n rows) p d).inverse (reduced_independent (as_mat q m n rows) p d).is

  -- There is room for the coordinates of as many rows as there are.
  pub coordinates_fit : (k most : ℕ) → k * n ≤ most → k * m ≤ most
  coordinates_fit k most h = let b = mul-le-mul_left k few_rows in omega arith
