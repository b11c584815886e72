-- The conditions on rows modulo others, and what is decided.
use Rattle.std.proofs.Common.{ℕ, ◌<◌, ◌≡◌, List, get_or, sym, ap, ◌∙◌, arith, subst}
use Rattle.linear_algebra.specs.Field.{Gf}
use Rattle.linear_algebra.specs.Matrix.{Mat, zeros}
use Rattle.linear_algebra.specs.Ranks.{rank}
use Rattle.linear_algebra.proofs.RowForm.{reduced_form, reduced_independent}
use Rattle.linear_algebra.proofs.RowFormUnique.{rank_of_span}
use Rattle.linear_algebra.proofs.Dimension.{rank_is}
use Rattle.linear_algebra.proofs.RankExists.{rank_factorisation}
use Rattle.linear_algebra.proofs.Ranks.{rank_at_most_rows}
use Rattle.linear_algebra.specs.Field.{mul}
use Rattle.linear_algebra.specs.FieldLaws.{mul_comm}
use Rattle.linear_algebra.specs.Sums.{sum-same}
use Rattle.linear_algebra.specs.Matrix.{Mat-eq_below, ◌·◌}
use Rattle.linear_algebra.specs.Reduced.{IsReduced, pivot}
use Rattle.linear_algebra.specs.Rows.{IsGrid}
use Rattle.linear_algebra.specs.Typed.{as_mat}
use Rattle.linear_algebra.proofs.RowFormUnique.{row_reduced-as_mat, grid_of-reduced}
use Rattle.linear_algebra.proofs.Rows.{row-entry}
use Rattle.linear_algebra.proofs.Typed.{as_mat-entry, grid_of-as_mat}
use Rattle.std.specs.Prelude.{slice_index, slice_index_or, []}
use Rattle.fp_linear.specs.Meeting.{Meets}
use Rattle.projectives.specs.BasisModulo.{IsReducedModulo}
use Rattle.extension_checks.specs.Asking.{AskRows, row_value}
use Rattle.extension_checks.specs.Cleared.{HasPivots, AreClearedAt}

-- The reduced row form has as many rows as the rank says.
pub rank_of_pivots : {q : Gf} {m n : ℕ} (f : Mat q m n) (r : ℕ) (pivots : List ℕ) → HasPivots f r pivots → r ≡ rank f
rank_of_pivots f r pivots h =
    let F = rank_factorisation f in
    let G = reduced_form f in
    h.size ∙ sym (rank_is F ∙ rank_of_span f G.rows (reduced_independent G.rows G.pivot G.reduced) G.spans G.spanned F)

-- Without rows there are no pivots.
pub no_pivots : (q : Gf) (n : ℕ) (pivots : List ℕ) → HasPivots (zeros q 0 n) 0 pivots
no_pivots q n pivots =
    let f = zeros q 0 n in
    let G = reduced_form f in
    let F = rank_factorisation f in
    let e : rank f ≡ G.size = rank_is F ∙ rank_of_span f G.rows (reduced_independent G.rows G.pivot G.reduced) G.spans G.spanned F in
    let l = rank_at_most_rows f in
    record { size = omega (arith, e, l); at = λ i b. absurd (omega arith) }

-- Printed rows that are zero behind a matrix are those that meet its columns.
module _ (q : Gf) (e n l m : ℕ) (rows : List (List ℕ)) (g : IsGrid q e n rows) (f : Mat q n l) (s : List ℕ) (asked : AskRows q n m s (λ k c. f.at c k) l) where
  abbrev printed : Mat q e n
  printed = as_mat q e n rows

  value_is : (i k : ℕ) → row_value q n (λ k c. f.at c k) k (slice_index (slice_index_or rows i [])) ≡ (printed · f).at i k
  unfolding ◌·◌
  value_is i k = sum-same q n _ _ (λ t b. ap (mul q (f.at t k)) (row-entry rows i t ∙ sym (as_mat-entry q e n rows g i t)) ∙ mul_comm q (f.at t k) (printed.at i t))

  pub zero_from_meeting : ((i : ℕ) → i < e → Meets q n m s (slice_index (slice_index_or rows i []))) → printed · f ≡ zeros q e l
  unfolding zeros
  zero_from_meeting h = Mat-eq_below _ _ (λ i k b c. sym (value_is i k) ∙ asked.forth (slice_index (slice_index_or rows i [])) (h i b) k c)

  pub meeting_from_zero : printed · f ≡ zeros q e l → (i : ℕ) → i < e → Meets q n m s (slice_index (slice_index_or rows i []))
  unfolding zeros
  meeting_from_zero z i b = asked.back (slice_index (slice_index_or rows i [])) (λ k c. value_is i k ∙ ap (λ (w : Mat q e l). w.at i k) z)

-- Printed rows that are reduced modulo those of a matrix.
module _ {q : Gf} {m n : ℕ} (f : Mat q m n) (e r : ℕ) (rows : List (List ℕ)) (pivots : List ℕ) (g : IsGrid q e n rows) (h : HasPivots f r pivots) where
  pub modulo_from : IsReduced n rows → AreClearedAt rows e pivots r → IsReducedModulo f (as_mat q e n rows)
  modulo_from d c = record {
    pivot = pivot rows;
    reduced = row_reduced-as_mat q e n rows g d;
    cleared = λ i k b l. let l' : k < r = omega (arith, l, h.size) in ap ((as_mat q e n rows).at i) (sym (h.at k l')) ∙ as_mat-entry q e n rows g i (get_or pivots k 0) ∙ sym (row-entry rows i (get_or pivots k 0)) ∙ (c.each i b).at k l';
  }

  pub reduced_from_modulo : IsReducedModulo f (as_mat q e n rows) → IsReduced n rows
  reduced_from_modulo d = subst (IsReduced n) (grid_of-as_mat q e n rows g) (grid_of-reduced (as_mat q e n rows) d.pivot d.reduced)

  pub cleared_from_modulo : IsReducedModulo f (as_mat q e n rows) → AreClearedAt rows e pivots r
  cleared_from_modulo d = record {
    each = λ i b. record {
      at = λ k l. row-entry rows i (get_or pivots k 0) ∙ sym (as_mat-entry q e n rows g i (get_or pivots k 0)) ∙ ap ((as_mat q e n rows).at i) (h.at k l) ∙ d.cleared i k b (omega (arith, l, h.size));
    };
  }

  -- the pivots are columns
  pub pivots_inside : (k : ℕ) → k < r → get_or pivots k 0 < n
  pivots_inside k l = subst (λ z. z < n) (sym (h.at k l)) ((reduced_form f).reduced.inside k (omega (arith, l, h.size)))
