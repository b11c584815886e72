-- The pivots of the radical at a vertex are those of the rows that are folded for it.
use Rattle.std.proofs.Common.{ℕ, zero, suc, ◌<◌, ◌≤◌, ◌≡◌, List, take, get_or, true, cond, refl, sym, ap, ap₂, ◌∙◌, arith, subst}
use Rattle.std.specs.Prelude.{slice_index, eqb}
use Rattle.std.proofs.lemmas.List.{get_or-map, get_or-take}
use Rattle.linear_algebra.specs.Field.{Gf}
use Rattle.linear_algebra.specs.Matrix.{Mat}
use Rattle.linear_algebra.specs.Rank.{IsInSpan}
use Rattle.linear_algebra.specs.Rows.{IsGrid, rows_of}
use Rattle.linear_algebra.specs.Reduced.{ReducesTo, pivot, pivots_of, leading}
use Rattle.linear_algebra.specs.Typed.{as_mat}
use Rattle.linear_algebra.proofs.Reduced.{IsGrid-take}
use Rattle.linear_algebra.proofs.RowFormUnique.{row_reduced-as_mat}
use Rattle.linear_algebra.proofs.Solving.{in_span_trans}
use Rattle.linear_algebra.proofs.Typed.{same_span_forth, same_span_back}
use Rattle.fp_linear.specs.Slices.{AreElements}
use Rattle.fp_linear.proofs.Cells.{IsGrid-rows_of}
use Rattle.representations.specs.Quiver.{Quiver}
use Rattle.representations.specs.Rep.{Rep}
use Rattle.representations.specs.RadicalModule.{arrow_rows}
use Rattle.projectives.specs.Canonical.{is_among, is_pivot}
use Rattle.projectives.proofs.KernelCovers.{is_pivot-of}
use Rattle.map_checks.specs.ArrowRows.{AskArrows}
use Rattle.map_checks.proofs.ArrowRows.{span_by_columns, arrows_killed, killed_arrows}
use Rattle.cover_checks.proofs.RankTests.{matrix_of, meets_zero, zero_meets}

among_same : (n : ℕ) (f g : ℕ → ℕ) (c : ℕ) → ((i : ℕ) → i < n → f i ≡ g i) → is_among n f c ≡ is_among n g c
among_same zero f g c e = refl
among_same (suc n) f g c e = ap₂ (λ a b. cond (eqb a c) true b) (e n (omega arith)) (among_same n f g c (λ i l. e i (omega arith)))

module _ {q : Gf} {Q : Quiver} (Z : Rep q Q) (w m : ℕ) (old new pivots : List ℕ) (r : ℕ) (eo : AreElements q old) (en : AreElements q new) (asked : AskArrows Z w (Z.dim w) m Q.arrows old)
    (form : ReducesTo q (Z.dim w) (rows_of m (Z.dim w) old) (rows_of m (Z.dim w) new) pivots r) where
  abbrev form_rows : List (List ℕ)
  form_rows = take r (rows_of m (Z.dim w) new)

  abbrev old_rows : Mat q m (Z.dim w)
  old_rows = matrix_of q m (Z.dim w) old eo

  abbrev reduced_rows : Mat q r (Z.dim w)
  reduced_rows = as_mat q r (Z.dim w) form_rows

  old_has : IsInSpan old_rows (arrow_rows Z w)
  old_has = span_by_columns old_rows (arrow_rows Z w) (λ y e. arrows_killed Z w y (asked.forth (λ t. y.at t 0) (zero_meets q m (Z.dim w) old eo y e)))

  has_old : IsInSpan (arrow_rows Z w) old_rows
  has_old = span_by_columns (arrow_rows Z w) old_rows (λ y e. meets_zero q m (Z.dim w) old eo y (asked.back (λ t. y.at t 0) (λ a l. killed_arrows Z w y e a)))

  old_grid : IsGrid q m (Z.dim w) (rows_of m (Z.dim w) old)
  old_grid = IsGrid-rows_of q m (Z.dim w) old eo

  new_grid : IsGrid q m (Z.dim w) (rows_of m (Z.dim w) new)
  new_grid = IsGrid-rows_of q m (Z.dim w) new en

  rank_below : r ≤ m
  rank_below = let e = new_grid.count in let f = form.fits in omega (arith, e, f)

  form_grid : IsGrid q r (Z.dim w) form_rows
  form_grid = IsGrid-take q m (Z.dim w) r (rows_of m (Z.dim w) new) new_grid rank_below

  form_has : IsInSpan reduced_rows (arrow_rows Z w)
  form_has = in_span_trans reduced_rows old_rows (arrow_rows Z w) (same_span_forth q m r (Z.dim w) (rows_of m (Z.dim w) old) form_rows old_grid form_grid form.span) old_has

  has_form : IsInSpan (arrow_rows Z w) reduced_rows
  has_form = in_span_trans (arrow_rows Z w) old_rows reduced_rows has_old (same_span_back q m r (Z.dim w) (rows_of m (Z.dim w) old) form_rows old_grid form_grid form.span)

  pivot_there : (i : ℕ) → i < r → pivot form_rows i ≡ slice_index pivots i
  unfolding pivots_of
  pivot_there i l =
      sym (get_or-map leading form_rows i _ zero (let c = form_grid.count in omega (arith, c, l))) ∙ ap (λ xs. get_or xs i zero) (sym form.columns) ∙ get_or-take r pivots i zero l

  pivots_at : (c : ℕ) → is_pivot Z w c ≡ is_among r (slice_index pivots) c
  pivots_at c =
      is_pivot-of Z w reduced_rows (pivot form_rows) (row_reduced-as_mat q r (Z.dim w) form_rows form_grid form.reduced) form_has has_form c
      ∙ among_same r (pivot form_rows) (slice_index pivots) c pivot_there

-- the same over a number that is the dimension, and a name of the field
pub pivots_found : {q : Gf} {Q : Quiver} (Z : Rep q Q) (w n m : ℕ) (f : Gf) → f ≡ q → n ≡ Z.dim w → (old new pivots : List ℕ) (r : ℕ) → AreElements f old → AreElements f new → AskArrows Z w n m Q.arrows old
    → ReducesTo f n (rows_of m n old) (rows_of m n new) pivots r → (c : ℕ) → is_pivot Z w c ≡ is_among r (slice_index pivots) c
pivots_found {q} {Q} Z w n m f ef e old new pivots r eo en asked form =
    pivots_at Z w m old new pivots r (subst (λ (q : Gf). AreElements q old) ef eo) (subst (λ (q : Gf). AreElements q new) ef en) (subst (λ n. AskArrows Z w n m Q.arrows old) e asked)
    (subst (λ n. ReducesTo q n (rows_of m n old) (rows_of m n new) pivots r) e (subst (λ (q : Gf). ReducesTo q n (rows_of m n old) (rows_of m n new) pivots r) ef form))
