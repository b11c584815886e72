-- Rows of a slice that ask what the rows of a matrix ask have its span, and so its rank and its pivots.
use Rattle.std.proofs.Common.{ℕ, ◌<◌, ◌≤◌, ◌≡◌, List, take, get_or, inl, inr, sym, ap, ◌∙◌, arith, subst, mod-eq_of_lt}
use Rattle.linear_algebra.specs.Field.{Gf}
use Rattle.linear_algebra.specs.Matrix.{Mat, Column, Mat-eq_below, zeros, transpose, delta-same, ◌·◌}
use Rattle.linear_algebra.specs.MatrixLaws.{one-at}
use Rattle.linear_algebra.specs.Rank.{IsInSpan}
use Rattle.linear_algebra.specs.Ranks.{rank}
use Rattle.linear_algebra.specs.Reduced.{ReducesTo, pivot}
use Rattle.linear_algebra.specs.Rows.{rows_of, IsGrid}
use Rattle.linear_algebra.specs.RowForm.{IsRowReduced}
use Rattle.linear_algebra.specs.Typed.{as_mat}
use Rattle.linear_algebra.proofs.Dimension.{rank_is, rank_transpose}
use Rattle.linear_algebra.proofs.PartsLaws.{made-at, row-at, row-mul}
use Rattle.linear_algebra.proofs.RankExists.{rank_factorisation}
use Rattle.linear_algebra.proofs.Ranks.{rank_same_span}
use Rattle.linear_algebra.proofs.Reduced.{IsGrid-take}
use Rattle.linear_algebra.proofs.RowForm.{reduced_form}
use Rattle.linear_algebra.proofs.RowFormUnique.{row_form_unique, row_reduced-as_mat}
use Rattle.linear_algebra.proofs.Solving.{in_span_trans}
use Rattle.linear_algebra.proofs.Subspaces.{span_or_beyond}
use Rattle.linear_algebra.proofs.Typed.{same_span_forth, same_span_back}
use Rattle.fp_linear.specs.Slices.{AreElements}
use Rattle.fp_linear.proofs.Cells.{IsGrid-rows_of}
use Rattle.fp_linear.proofs.LentProducts.{pivot_at}
use Rattle.fp_linear.proofs.Meeting.{column_of, Meets-typed, Meets-from_typed}
use Rattle.fp_linear.proofs.RankOf.{rank_of_answer}
use Rattle.std.proofs.lemmas.Bool.{cases_lt}
use Rattle.std.proofs.lemmas.List.{get_or-take}
use Rattle.extension_checks.specs.Asking.{AskRows}
use Rattle.extension_checks.specs.Cleared.{HasPivots}

-- Rows are in a span if each column that the rows that span it take to zero, they take to zero.
pub spans_by_columns : {q : Gf} {m k n : ℕ} (f : Mat q m n) (g : Mat q k n) → ((x : Column q n) → f · x ≡ zeros q m 1 → g · x ≡ zeros q k 1) → IsInSpan f g
unfolding zeros
spans_by_columns {q} {m} {k} {n} f g h = elim (span_or_beyond f g) [
  | inl s ↦ s
  | inr b ↦ absurd (not_one (sym (row-at b.0 (g · b.2.functional) 0 ∙ ap (λ (z : Mat q k 1). z.at b.0 0) (h b.2.functional b.2.kills))
      ∙ ap (λ (z : Mat q 1 1). z.at 0 0) (row-mul b.0 g b.2.functional ∙ b.2.sees) ∙ one-at q 1 0 0 (omega arith) ∙ delta-same 0))
]
  where
    not_one : ◌≡◌ {A = ℕ} 0 1 → ⊥
    not_one e = omega arith

column_of-is : (q : Gf) (n : ℕ) (x : Column q n) → column_of q n (λ t. x.at t 0) ≡ x
unfolding column_of
column_of-is q n x = Mat-eq_below _ _ (λ i j l k. let e : j ≡ 0 = omega arith in
    made-at q n 1 (λ t j. x.at t 0) i j l k ∙ mod-eq_of_lt (x.fits.small i 0) ∙ ap (x.at i) (sym e))

module _ {q : Gf} {count n : ℕ} (f : Mat q count n) (m : ℕ) (s : List ℕ) (a : AreElements q s) (asked : AskRows q n m s f.at count) where
  abbrev standing : Mat q m n
  standing = as_mat q m n (rows_of m n s)

  killed : (x : Column q n) → standing · x ≡ zeros q m 1 → f · x ≡ zeros q count 1
  unfolding ◌·◌ zeros
  killed x e = Mat-eq_below _ _ (λ i j l k. let z : j ≡ 0 = omega arith in
      ap ((f · x).at i) z ∙ asked.forth (λ t. x.at t 0) (Meets-from_typed q m n s a (λ t. x.at t 0) (ap (λ y. standing · y) (column_of-is q n x) ∙ e)) i l)

  killed_back : (x : Column q n) → f · x ≡ zeros q count 1 → standing · x ≡ zeros q m 1
  unfolding ◌·◌ zeros
  killed_back x e =
      ap (λ y. standing · y) (sym (column_of-is q n x))
      ∙ Meets-typed q m n s a (λ t. x.at t 0) (asked.back (λ t. x.at t 0) (λ k l. ap (λ (z : Mat q count 1). z.at k 0) e))

  pub asked_spans : IsInSpan standing f
  asked_spans = spans_by_columns standing f killed

  pub asked_spanned : IsInSpan f standing
  asked_spanned = spans_by_columns f standing killed_back

  -- after elimination
  module _ (new pivots : List ℕ) (r : ℕ) (b : AreElements q new) (d : ReducesTo q n (rows_of m n s) (rows_of m n new) pivots r) where
    pub asked_rank : r ≡ rank f
    asked_rank =
        let F = rank_factorisation standing in
        sym (rank_is F ∙ rank_of_answer q m n (rows_of m n s) (rows_of m n new) pivots r (IsGrid-rows_of q m n s a) (IsGrid-rows_of q m n new b) d F)
        ∙ sym (rank_same_span standing f asked_spans asked_spanned)

    few : r ≤ m
    few = let f = d.fits in let c = (IsGrid-rows_of q m n new b).count in omega arith

    front : IsGrid q r n (take r (rows_of m n new))
    front = IsGrid-take q m n r (rows_of m n new) (IsGrid-rows_of q m n new b) few

    abbrev form : Mat q r n
    form = as_mat q r n (take r (rows_of m n new))

    form_reduced : IsRowReduced form (pivot (take r (rows_of m n new)))
    form_reduced = row_reduced-as_mat q r n (take r (rows_of m n new)) front d.reduced

    form_spans : IsInSpan form (reduced_form f).rows
    form_spans = in_span_trans form f (reduced_form f).rows
        (in_span_trans form standing f (same_span_forth q m r n (rows_of m n s) (take r (rows_of m n new)) (IsGrid-rows_of q m n s a) front d.span) asked_spans)
        (reduced_form f).spanned

    form_spanned : IsInSpan (reduced_form f).rows form
    form_spanned = in_span_trans (reduced_form f).rows f form (reduced_form f).spans
        (in_span_trans f standing form asked_spanned (same_span_back q m r n (rows_of m n s) (take r (rows_of m n new)) (IsGrid-rows_of q m n s a) front d.span))

    unique : (r ≡ (reduced_form f).size) × ((i j : ℕ) → form.at i j ≡ (reduced_form f).rows.at i j)
    unique = row_form_unique form (reduced_form f).rows (pivot (take r (rows_of m n new))) (reduced_form f).pivot form_reduced (reduced_form f).reduced form_spanned form_spans

    pivot_same : (i : ℕ) → i < r → pivot (take r (rows_of m n new)) i ≡ (reduced_form f).pivot i
    pivot_same i l =
        let p = pivot (take r (rows_of m n new)) i in
        let t = (reduced_form f).pivot i in
        let k : i < (reduced_form f).size = subst (λ z. i < z) unique.0 l in
        elim (cases_lt p t) [
          | inl x ↦ absurd (not_one (sym (form_reduced.one i l) ∙ unique.1 i p ∙ (reduced_form f).reduced.before i p k x))
          | inr x ↦ elim (cases_lt t p) [
            | inl y ↦ absurd (not_one (sym ((reduced_form f).reduced.one i k) ∙ sym (unique.1 i t) ∙ form_reduced.before i t l y))
            | inr y ↦ omega arith
          ]
        ]
      where
        not_one : ◌≡◌ {A = ℕ} 1 0 → ⊥
        not_one e = omega arith

    place_of_pivot : (i : ℕ) → i < r → get_or pivots i 0 ≡ pivot (take r (rows_of m n new)) i
    place_of_pivot i l =
        let c = front.count in
        sym (get_or-take r pivots i 0 l) ∙ pivot_at (take r (rows_of m n new)) (take r pivots) i d.columns (omega (arith, c, l))

    pub asked_pivots : HasPivots f r pivots
    asked_pivots = record { size = unique.0; at = λ i l. place_of_pivot i l ∙ pivot_same i l }

-- The same where the numbers of places are only known to be equal: by the columns of a matrix, and by its rows.
pub rank_by_columns : {q : Gf} {n count : ℕ} (f : Mat q n count) (m k : ℕ) (s new pivots : List ℕ) (r : ℕ) → k ≡ n → AreElements q s → AreElements q new → AskRows q k m s (λ c t. f.at t c) count
    → ReducesTo q k (rows_of m k s) (rows_of m k new) pivots r → r ≡ rank f
unfolding transpose
rank_by_columns {q} {n} {count} f m k s new pivots r e a b = subst (λ k. AskRows q k m s (λ c t. f.at t c) count → ReducesTo q k (rows_of m k s) (rows_of m k new) pivots r → r ≡ rank f) (sym e)
    (λ asked d. asked_rank (transpose f) m s a asked new pivots r b d ∙ rank_transpose f)

pub pivots_by_rows : {q : Gf} {count n : ℕ} (f : Mat q count n) (m k : ℕ) (s new pivots : List ℕ) (r : ℕ) → k ≡ n → AreElements q s → AreElements q new → AskRows q k m s (λ c t. f.at c t) count
    → ReducesTo q k (rows_of m k s) (rows_of m k new) pivots r → HasPivots f r pivots
pivots_by_rows {q} {count} {n} f m k s new pivots r e a b = subst (λ k. AskRows q k m s (λ c t. f.at c t) count → ReducesTo q k (rows_of m k s) (rows_of m k new) pivots r → HasPivots f r pivots) (sym e)
    (λ asked d. asked_pivots f m s a asked new pivots r b d)
