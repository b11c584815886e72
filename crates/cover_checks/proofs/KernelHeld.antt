-- A kernel that stands in a slice is the one that the conditions speak of.
use Rattle.std.proofs.Common.{ℕ, ◌<◌, ◌≡◌, ◌≢◌, ◌+◌, ◌*◌, List, [], get_or, sym, ap, ◌∙◌, subst, mod-eq_of_lt, inl, inr, ◌%◌}
use Rattle.std.specs.Prelude.{slice_index}
use Rattle.linear_algebra.specs.Field.{Gf, order}
use Rattle.linear_algebra.specs.Matrix.{Mat, Row, zeros, ◌·◌}
use Rattle.linear_algebra.specs.Parts.{row}
use Rattle.linear_algebra.specs.PartsLaws.{Row-eq, rows_equal, row-mul, row_zeros}
use Rattle.linear_algebra.specs.Rank.{IsInSpan}
use Rattle.linear_algebra.specs.Rows.{IsGrid, IsRow, rows_of, times, unit}
use Rattle.linear_algebra.specs.Rows as lists
use Rattle.linear_algebra.specs.Reduced.{pivot}
use Rattle.linear_algebra.specs.RowForm.{IsRowReduced}
use Rattle.linear_algebra.specs.Kernels.{IsKernel}
use Rattle.linear_algebra.specs.Typed.{as_mat, as_row, list_of_row}
use Rattle.linear_algebra.proofs.Dimension.{complement}
use Rattle.linear_algebra.proofs.RowForm.{reduced_form}
use Rattle.linear_algebra.proofs.RowFormUnique.{row_reduced-as_mat}
use Rattle.linear_algebra.proofs.Rows.{times-unit, get_or-list_of, get_or-list_of_past, length-list_of, IsRow-times}
use Rattle.linear_algebra.specs.FieldLaws.{order-pos}
use Rattle.std.proofs.lemmas.Bool.{cases_lt}
use Rattle.linear_algebra.proofs.Typed.{as_mat-entry, as_row-at, as_row-times, as_row-list_of_row, IsRow-list_of_row, row-as_mat, in_span-as_mat, as_row-injective}
use Rattle.fp_linear.specs.Slices.{AreElements, cell}
use Rattle.fp_linear.proofs.Cells.{cell-entry, IsGrid-rows_of}
use Rattle.resolution_checks.proofs.KernelBases.{kernel_basis_once}
use Rattle.cover_checks.specs.Bases.{ArePlaces, HoldsBasis}
use Rattle.cover_checks.proofs.Placed.{some_nonzero, places_are}

zeros-at : (n j : ℕ) → get_or (lists.zeros n) j 0 ≡ 0
unfolding lists.zeros
zeros-at n j = elim (cases_lt j n) [ inl l ↦ get_or-list_of n _ j 0 l | inr l ↦ get_or-list_of_past n _ j 0 l ]

zeros_row : (q : Gf) (n : ℕ) → IsRow q n (lists.zeros n)
unfolding lists.zeros
zeros_row q n = record { count = length-list_of n _; small = λ j. subst (λ z. z < order q) (sym (zeros-at n j)) (order-pos q) }

module _ (q : Gf) (m n size : ℕ) (M : Mat q m n) (s basis : List ℕ) (es : AreElements q s) (eb : AreElements q basis) (held : as_mat q m n (rows_of m n s) ≡ M) (k : IsKernel q m n (rows_of m n s) (rows_of size m basis)) where
  abbrev K : Mat q size m
  K = as_mat q size m (rows_of size m basis)

  given : IsGrid q m n (rows_of m n s)
  given = IsGrid-rows_of q m n s es

  grid : IsGrid q size m (rows_of size m basis)
  grid = IsGrid-rows_of q size m basis eb

  reduced : IsRowReduced K (pivot (rows_of size m basis))
  reduced = row_reduced-as_mat q size m (rows_of size m basis) grid k.reduced

  zero_row : as_row q n (lists.zeros n) ≡ zeros q 1 n
  unfolding zeros
  zero_row = Row-eq _ _ (λ j l. as_row-at q n (lists.zeros n) j l ∙ ap (λ z. z % order q) (zeros-at n j) ∙ mod-eq_of_lt (order-pos q))

  killed_row : (i : ℕ) → i < size → row i (K · M) ≡ row i (zeros q size n)
  unfolding lists.entry
  killed_row i l =
      let x = get_or (rows_of size m basis) i [] in
      let isrow : IsRow q m x = record { count = grid.width i l; small = λ j. grid.small i j } in
      row-mul i K M ∙ ap (λ z. z · M) (row-as_mat q size m (rows_of size m basis) i l) ∙ ap (λ z. as_row q m x · z) (sym held)
      ∙ sym (as_row-times q m n x (rows_of m n s) given)
      ∙ ap (as_row q n) ((k.all x isrow).0 (unit size i, times-unit q size m (rows_of size m basis) i grid l))
      ∙ zero_row ∙ sym (row_zeros q size n i)

  spans : (x : Row q m) → x · M ≡ zeros q 1 n → IsInSpan K x
  spans x e =
      let y = list_of_row x in
      let zero : times q n y (rows_of m n s) ≡ lists.zeros n = as_row-injective q n (times q n y (rows_of m n s)) (lists.zeros n) (IsRow-times q n y (rows_of m n s)) (zeros_row q n)
      (as_row-times q m n y (rows_of m n s) given ∙ ap (λ z. z · as_mat q m n (rows_of m n s)) (as_row-list_of_row x) ∙ ap (λ z. x · z) held ∙ e ∙ sym zero_row) in
      subst (IsInSpan K) (as_row-list_of_row x) (in_span-as_mat q size m (rows_of size m basis) grid y ((k.all y (IsRow-list_of_row x)).1 zero))

  same : (size ≡ (reduced_form (complement M).kernel).size) × ((i j : ℕ) → K.at i j ≡ (reduced_form (complement M).kernel).rows.at i j)
  same = kernel_basis_once M K (pivot (rows_of size m basis)) reduced (rows_equal (K · M) (zeros q size n) killed_row) spans

  pub size_is : size ≡ (reduced_form (complement M).kernel).size
  size_is = same.0

  pub rows_are : (i j : ℕ) → i < (reduced_form (complement M).kernel).size → j < m → cell m basis i j ≡ (reduced_form (complement M).kernel).rows.at i j
  rows_are i j l b = sym (cell-entry size m basis i j (subst (λ z. i < z) (sym same.0) l) b) ∙ sym (as_mat-entry q size m (rows_of size m basis) grid i j) ∙ same.1 i j

  -- each row has a number that is not zero
  pub has_nonzero : (i : ℕ) → i < size → (t : ℕ) × (t < m) × (slice_index basis (i * m + t) ≢ 0)
  has_nonzero i l = some_nonzero K (pivot (rows_of size m basis)) reduced basis (λ i j l b. sym (cell-entry size m basis i j l b) ∙ sym (as_mat-entry q size m (rows_of size m basis) grid i j)) i l

  pub kernel_holds : (places : List ℕ) → ArePlaces m size basis places → HoldsBasis (reduced_form (complement M).kernel).rows (reduced_form (complement M).kernel).pivot basis places
  kernel_holds places p = places_are (reduced_form (complement M).kernel).rows (reduced_form (complement M).kernel).pivot (reduced_form (complement M).kernel).reduced basis rows_are places
      (subst (λ z. ArePlaces m z basis places) same.0 p)
