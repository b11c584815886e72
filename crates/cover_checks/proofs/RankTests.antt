-- Ranks of rows in slices decide whether rows at a vertex are independent modulo the radical.
use Rattle.std.proofs.Common.{ℕ, ◌+◌, ◌<◌, ◌≡◌, List, inl, inr, refl, sym, ap, ap₂, ◌∙◌, arith, mod-eq_of_lt}
use Rattle.std.proofs.lemmas.Bool.{cases_eq}
use Rattle.linear_algebra.specs.Field.{Gf, mul}
use Rattle.linear_algebra.specs.Sums.{sum_to, sum-same}
use Rattle.linear_algebra.specs.Matrix.{Mat, Mat-eq_below, Row, Column, zeros, ◌·◌, stack}
use Rattle.linear_algebra.specs.Rank.{IsInSpan, HasRightInverse}
use Rattle.linear_algebra.specs.Ranks.{rank}
use Rattle.linear_algebra.specs.Rows.{rows_of}
use Rattle.linear_algebra.specs.Reduced.{ReducesTo}
use Rattle.linear_algebra.specs.Typed.{as_mat}
use Rattle.linear_algebra.proofs.PartsLaws.{made-at}
use Rattle.linear_algebra.proofs.Blocks.{stack_mul, stack_zeros}
use Rattle.linear_algebra.proofs.BlockFamilies.{stack_all_mul, stack_all-same, stack_all-zeros}
use Rattle.linear_algebra.proofs.Ranks.{rank_same_span, rank_right_inverse}
use Rattle.linear_algebra.proofs.RowForm.{reduced_form, reduced_independent}
use Rattle.fp_linear.specs.Slices.{AreElements}
use Rattle.fp_linear.specs.Meeting.{Meets}
use Rattle.fp_linear.proofs.Meeting.{column_of, Meets-typed, Meets-from_typed}
use Rattle.representations.specs.Quiver.{Quiver}
use Rattle.representations.specs.Rep.{Rep}
use Rattle.representations.specs.RadicalModule.{arrow_rows}
use Rattle.representations.specs.StackSpans.{stack_has_first, stack_has_second, stack_all_has}
use Rattle.projectives.specs.Generators.{count_at, rows_at}
use Rattle.module_checks.specs.Commuting.{AsksMore}
use Rattle.map_checks.specs.ArrowRows.{AskArrows}
use Rattle.map_checks.proofs.ArrowRows.{span_by_columns, columns_of_span, arrows_killed, killed_arrows}
use Rattle.resolution_checks.proofs.RanksAt.{rank_of_slice}
use Rattle.cover_checks.proofs.Independence.{rows_here, size, size_here, size_elsewhere, block, block-at, Independent, ranks_add, added_ranks}

column_again : {q : Gf} {n : ℕ} (y : Column q n) → column_of q n (λ t. y.at t 0) ≡ y
unfolding column_of
column_again {q} {n} y = Mat-eq_below _ _ (λ i j l k. let e : j ≡ 0 = omega arith in made-at q n 1 (λ t j. y.at t 0) i j l k ∙ mod-eq_of_lt (y.fits.small i 0) ∙ ap (y.at i) (sym e))

-- Rows in a slice, as a matrix; columns that meet them.
module _ (q : Gf) (m n : ℕ) (s : List ℕ) (small : AreElements q s) where
  abbrev pub matrix_of : Mat q m n
  matrix_of = as_mat q m n (rows_of m n s)

  pub meets_zero : (y : Column q n) → Meets q n m s (λ t. y.at t 0) → matrix_of · y ≡ zeros q m 1
  meets_zero y h = ap (λ y. matrix_of · y) (sym (column_again y)) ∙ Meets-typed q m n s small (λ t. y.at t 0) h

  pub zero_meets : (y : Column q n) → matrix_of · y ≡ zeros q m 1 → Meets q n m s (λ t. y.at t 0)
  zero_meets y e = Meets-from_typed q m n s small (λ t. y.at t 0) (ap (λ y. matrix_of · y) (column_again y) ∙ e)

module _ {q : Gf} {Q : Quiver} (Z : Rep q Q) (k : ℕ) (v : ℕ → ℕ) (x : (j : ℕ) → Row q (Z.dim (v j))) (w m : ℕ) where
  -- the rows at w are taken to zero
  pub record RowsKilled (y : ℕ → ℕ) : Type 0 where
    pub each : (j : ℕ) → j < k → v j ≡ w → sum_to q (Z.dim w) (λ t. mul q ((rows_at Z k v x w).at j t) (y t)) ≡ 0

  abbrev pub b : Mat q (reduced_form (arrow_rows Z w)).size (Z.dim w)
  b = (reduced_form (arrow_rows Z w)).rows

  pub b_independent : HasRightInverse b
  b_independent = reduced_independent b (reduced_form (arrow_rows Z w)).pivot (reduced_form (arrow_rows Z w)).reduced

  pub here : Mat q (count_at k v w) (Z.dim w)
  here = rows_here Z k v x w

  block_killed : (y : Column q (Z.dim w)) → RowsKilled (λ t. y.at t 0) → (j : ℕ) → j < k → block Z k v x w j · y ≡ zeros q (size Z k v x w j) 1
  unfolding ◌·◌ zeros
  block_killed y h j l = Mat-eq_below _ _ (λ i c d f. elim (cases_eq (v j) w) [
    | inl e ↦
        let one_row = size_here Z k v x w j e in
        let first : i ≡ 0 = omega arith in
        let column : c ≡ 0 = omega arith in
        ap₂ (block Z k v x w j · y).at first column ∙ sum-same q (Z.dim w) _ _ (λ t u. ap (λ a. mul q a (y.at t 0)) (block-at Z k v x w j t e u)) ∙ h.each j l e
    | inr n ↦ let no_row = size_elsewhere Z k v x w j n in absurd (omega arith)
  ])

  here_killed : (y : Column q (Z.dim w)) → RowsKilled (λ t. y.at t 0) → here · y ≡ zeros q (count_at k v w) 1
  unfolding here
  here_killed y h =
      stack_all_mul k (size Z k v x w) (block Z k v x w) y
      ∙ stack_all-same (size Z k v x w) k (λ j. block Z k v x w j · y) (λ j. zeros q (size Z k v x w j) 1) (λ j l. block_killed y h j l)
      ∙ stack_all-zeros (size Z k v x w) k

  killed_here : (y : Column q (Z.dim w)) → here · y ≡ zeros q (count_at k v w) 1 → RowsKilled (λ t. y.at t 0)
  unfolding here ◌·◌ zeros
  killed_here y e = record {
    each = λ j l d.
        let one_row = size_here Z k v x w j d in
        sym (sum-same q (Z.dim w) _ _ (λ t u. ap (λ a. mul q a (y.at t 0)) (block-at Z k v x w j t d u)))
        ∙ ap (λ (z : Mat q (size Z k v x w j) 1). z.at 0 0) (columns_of_span here (block Z k v x w j) (stack_all_has k (size Z k v x w) (block Z k v x w) j l) y e);
  }

  module _ (radical : List ℕ) (er : AreElements q radical) (asked : AskArrows Z w (Z.dim w) m Q.arrows radical) where
    radical_has : IsInSpan (matrix_of q m (Z.dim w) radical er) (arrow_rows Z w)
    radical_has = span_by_columns _ (arrow_rows Z w) (λ y e. arrows_killed Z w y (asked.forth (λ t. y.at t 0) (zero_meets q m (Z.dim w) radical er y e)))

    has_radical : IsInSpan (arrow_rows Z w) (matrix_of q m (Z.dim w) radical er)
    has_radical = span_by_columns (arrow_rows Z w) _ (λ y e. meets_zero q m (Z.dim w) radical er y (asked.back (λ t. y.at t 0) (λ a l. killed_arrows Z w y e a)))

    -- the rank of the first rows
    pub radical_rank : (new pivots : List ℕ) (r : ℕ) → AreElements q new → ReducesTo q (Z.dim w) (rows_of m (Z.dim w) radical) (rows_of m (Z.dim w) new) pivots r → r ≡ (reduced_form (arrow_rows Z w)).size
    radical_rank new pivots r en f =
        rank_of_slice q m (Z.dim w) m (Z.dim w) (matrix_of q m (Z.dim w) radical er) radical new pivots r refl refl er en f refl
        ∙ rank_same_span (arrow_rows Z w) (matrix_of q m (Z.dim w) radical er) has_radical radical_has
        ∙ sym (rank_same_span (arrow_rows Z w) b (reduced_form (arrow_rows Z w)).spanned (reduced_form (arrow_rows Z w)).spans) ∙ rank_right_inverse b b_independent

    -- the rank of all rows
    module _ (whole : List ℕ) (ew : AreElements q whole) (more : AsksMore q (Z.dim w) m radical whole RowsKilled) where
      whole_has : IsInSpan (matrix_of q m (Z.dim w) whole ew) (stack here b)
      whole_has = span_by_columns _ (stack here b) (λ y e.
          let meets = zero_meets q m (Z.dim w) whole ew y e in
          let first = here_killed y (more.more (λ t. y.at t 0) meets) in
          let second = columns_of_span (arrow_rows Z w) b (reduced_form (arrow_rows Z w)).spanned y (arrows_killed Z w y (asked.forth (λ t. y.at t 0) (more.before (λ t. y.at t 0) meets))) in
          stack_mul here b y ∙ ap₂ stack first second ∙ stack_zeros q (count_at k v w) (reduced_form (arrow_rows Z w)).size 1)

      has_whole : IsInSpan (stack here b) (matrix_of q m (Z.dim w) whole ew)
      has_whole = span_by_columns (stack here b) _ (λ y e.
          let first = columns_of_span (stack here b) here (stack_has_first here b) y e in
          let second = columns_of_span b (arrow_rows Z w) (reduced_form (arrow_rows Z w)).spans y (columns_of_span (stack here b) b (stack_has_second here b) y e) in
          meets_zero q m (Z.dim w) whole ew y
          (more.enough (λ t. y.at t 0) (asked.back (λ t. y.at t 0) (λ a l. killed_arrows Z w y second a)) (killed_here y first)))

      pub whole_rank : (new pivots : List ℕ) (r : ℕ) → AreElements q new → ReducesTo q (Z.dim w) (rows_of m (Z.dim w) whole) (rows_of m (Z.dim w) new) pivots r → r ≡ rank (stack here b)
      whole_rank new pivots r en f =
          rank_of_slice q m (Z.dim w) m (Z.dim w) (matrix_of q m (Z.dim w) whole ew) whole new pivots r refl refl ew en f refl
          ∙ rank_same_span (stack here b) (matrix_of q m (Z.dim w) whole ew) has_whole whole_has

  -- so the test decides
  pub independent_where : (r s : ℕ) → r ≡ (reduced_form (arrow_rows Z w)).size → s ≡ rank (stack here b) → s ≡ count_at k v w + r → Independent Z k v x w b b_independent (reduced_form (arrow_rows Z w)).spanned (reduced_form (arrow_rows Z w)).spans
  unfolding here
  independent_where r s er es e = added_ranks Z k v x w b b_independent (reduced_form (arrow_rows Z w)).spanned (reduced_form (arrow_rows Z w)).spans (sym es ∙ e ∙ ap (λ r. count_at k v w + r) er)

  pub ranks_where : (r s : ℕ) → r ≡ (reduced_form (arrow_rows Z w)).size → s ≡ rank (stack here b) → Independent Z k v x w b b_independent (reduced_form (arrow_rows Z w)).spanned (reduced_form (arrow_rows Z w)).spans → s ≡ count_at k v w + r
  unfolding here
  ranks_where r s er es i = es ∙ ranks_add Z k v x w b b_independent (reduced_form (arrow_rows Z w)).spanned (reduced_form (arrow_rows Z w)).spans i ∙ ap (λ r. count_at k v w + r) (sym er)
