-- The conditions on the rows of a claim on extensions, and what is decided.
use Rattle.std.proofs.Common.{ℕ, suc, ◌≡◌, ◌<◌, ◌≤◌, ◌+◌, List, length, sym, ◌∙◌, arith, subst}
use Rattle.std.specs.Prelude.{slice_index, slice_index_or, Option, None, Some}
use Rattle.std.specs.Bool.{⊤}
use Rattle.std.proofs.lemmas.List.{get_or_default}
use Rattle.linear_algebra.specs.Ranks.{rank}
use Rattle.linear_algebra.specs.Reduced.{IsReduced}
use Rattle.linear_algebra.specs.Rows.{IsGrid}
use Rattle.fp_linear.specs.Matrix.{PlainMatrix, IsMatrix}
use Rattle.quiver_paths.specs.declared.Path.{Path}
use Rattle.path_algebra.specs.declared.Header.{Header}
use Rattle.alg_table.specs.TableView.{IsTable}
use Rattle.projectives.specs.Words.{Words}
use Rattle.bound_tables.specs.TableSides.{table_sides}
use Rattle.module_types.specs.declared.Module.{Module}
use Rattle.module_types.specs.declared.Side.{Side}
use Rattle.module_types.specs.declared.TermRows.{TermRows}
use Rattle.module_types.specs.Algebras.{algebra_at, sided_words}
use Rattle.module_types.specs.Readings.{read, rep_of}
use Rattle.module_types.specs.TermCoordinates.{coordinates}
use Rattle.claim_conditions.specs.declared.Clause.{Clause}
use Rattle.claim_conditions.specs.Conditions.{IsAnswer}
use Rattle.claim_conditions.specs.ExtensionConditions.{coboundaries, cocycle_matrix, AreCocycles, AreReducedModulo, AreAllCocycles, extension_conditions}
use Rattle.claim_conditions.specs.Terms.{term_at}
use Rattle.module_checks.specs.Meeting.{AllMeet}
use Rattle.term_rows.specs.SumDims.{AreTerms}
use Rattle.resolution_checks.specs.Room.{AreSmall}
use Rattle.extension_checks.specs.Asking.{AskRows}
use Rattle.extension_checks.specs.Cleared.{HasPivots, AreClearedAt}
use Rattle.extension_checks.specs.Following.{IsTermOver, AreTermsOver, following, column_entries}
use Rattle.extension_checks.specs.RowConditions.{row_conditions, coordinate_rows}
use Rattle.extension_checks.proofs.ReducedModulo.{rank_of_pivots, no_pivots, zero_from_meeting, meeting_from_zero, modulo_from, reduced_from_modulo, cleared_from_modulo, pivots_inside}

-- terms, each over the one before, whatever the module that the first covers
pub terms_over : (h : Header) (words : List Path) (a : Module) (side : Side) (terms : List TermRows) (n : ℕ) → a.side ≡ side → AreTerms words h a terms (suc (suc n)) → AreSmall words h a terms (suc n) → AreTermsOver h words side terms n
terms_over h words a side terms n e T S = subst (λ side. AreTermsOver h words side terms n) e (record {
  counted = T.counted;
  each = λ k l. record { declared = record { declared = (T.each k (omega arith)).declared }; shape = T.each (suc k) (omega arith); small = S.fits (suc k) (omega arith) };
})

pub term_is : (terms : List TermRows) (k : ℕ) (term : TermRows) → k < length terms → term ≡ slice_index_or terms k term → term ≡ term_at terms k
term_is terms k term l e = e ∙ get_or_default terms k term _ l

module _ (h : Header) (words : List Path) (b : Module) (terms : List TermRows) (n : ℕ) (T : AreTermsOver h words b.side terms n) where
  pub over_at : (k : ℕ) (first next : TermRows) → k ≤ n → first ≡ slice_index_or terms k first → next ≡ slice_index_or terms (suc k) next → IsTermOver h words b.side first next
  over_at k first next l e f =
      let c = T.counted in
      subst (λ first. IsTermOver h words b.side first next) (sym (term_is terms k first (omega (arith, c, l)) e))
      (subst (IsTermOver h words b.side (term_at terms k)) (sym (term_is terms (suc k) next (omega (arith, c, l)) f)) (T.each k l))

  module _ (t : IsTable h words) where
    abbrev side_words : Words h.field (algebra_at b.side h).quiver
    side_words = (sided_words b.side (table_sides h words t)).words

    -- the coboundaries
    pub first_pivots : (pivots : List ℕ) → n ≡ 0 → HasPivots (coboundaries side_words (read h b) terms n) 0 pivots
    first_pivots pivots e = subst (λ n. HasPivots (coboundaries side_words (read h b) terms n) 0 pivots) (sym e) (no_pivots h.field (coordinates (read h b) (term_at terms 0)) pivots)

    pub later_pivots : (k r : ℕ) (first next : TermRows) (pivots : List ℕ) → n ≡ suc k → first ≡ slice_index_or terms k first → next ≡ slice_index_or terms (suc k) next → HasPivots (following h words b t first next) r pivots
        → HasPivots (coboundaries side_words (read h b) terms n) r pivots
    later_pivots k r first next pivots e f g p =
        let c = T.counted in
        subst (λ n. HasPivots (coboundaries side_words (read h b) terms n) r pivots) (sym e)
        (subst (λ first. HasPivots (following h words b t first (term_at terms (suc k))) r pivots) (term_is terms k first (omega (arith, c, e)) f)
        (subst (λ next. HasPivots (following h words b t first next) r pivots) (term_is terms (suc k) next (omega (arith, c, e)) g) p))

    -- what is asked of the rows
    module _ (rows : PlainMatrix) (m : IsMatrix rows) (f : rows.field ≡ h.field) (u : rows.col_count ≡ coordinates (read h b) (term_at terms n)) where
      pub grid : IsGrid h.field rows.row_count (coordinates (read h b) (term_at terms n)) rows.rows
      grid = subst (λ q. IsGrid q rows.row_count (coordinates (read h b) (term_at terms n)) rows.rows) f (subst (λ n. IsGrid rows.field rows.row_count n rows.rows) u m.grid)

      module _ (first next : TermRows) (e : first ≡ slice_index_or terms n first) (d : next ≡ slice_index_or terms (suc n) next) where
        first_is : first ≡ term_at terms n
        first_is = term_is terms n first (let c = T.counted in omega (arith, c)) e

        next_is : next ≡ term_at terms (suc n)
        next_is = term_is terms (suc n) next (let c = T.counted in omega (arith, c)) d

        pub outer_rank : (r : ℕ) → r ≡ rank (following h words b t first next) → r ≡ rank (cocycle_matrix side_words (read h b) terms n)
        outer_rank r p =
            subst (λ first. r ≡ rank (following h words b t first (term_at terms (suc n)))) first_is (subst (λ next. r ≡ rank (following h words b t first next)) next_is p)

        module _ (k : ℕ) (s : List ℕ) (c : k ≡ rows.col_count) (asked : AskRows h.field k 1025 s (column_entries h words b t first next) (coordinates (read h b) next)) where
          asked_here : AskRows h.field (coordinates (read h b) (term_at terms n)) 1025 s (λ k l. (cocycle_matrix side_words (read h b) terms n).at l k) (coordinates (read h b) (term_at terms (suc n)))
          asked_here =
              subst (λ first. AskRows h.field (coordinates (read h b) (term_at terms n)) 1025 s (column_entries h words b t first (term_at terms (suc n))) (coordinates (read h b) (term_at terms (suc n)))) first_is
              (subst (λ next. AskRows h.field (coordinates (read h b) (term_at terms n)) 1025 s (column_entries h words b t first next) (coordinates (read h b) next)) next_is
              (subst (λ k. AskRows h.field k 1025 s (column_entries h words b t first next) (coordinates (read h b) next)) (c ∙ u) asked))

          pub cocycles_from : AllMeet h.field rows 1025 s → AreCocycles side_words (read h b) terms n (coordinate_rows side_words (read h b) terms n rows)
          cocycles_from a = zero_from_meeting h.field rows.row_count _ _ 1025 rows.rows grid (cocycle_matrix side_words (read h b) terms n) s asked_here (λ i l. rw u at (a.each i l))

          pub meeting_from : AreCocycles side_words (read h b) terms n (coordinate_rows side_words (read h b) terms n rows) → AllMeet h.field rows 1025 s
          meeting_from z = record { each = λ i l. rw u (meeting_from_zero h.field rows.row_count _ _ 1025 rows.rows grid (cocycle_matrix side_words (read h b) terms n) s asked_here z i l) }

      module _ (r : ℕ) (pivots : List ℕ) (p : HasPivots (coboundaries side_words (read h b) terms n) r pivots) where
        pub rows_modulo : IsReduced rows.col_count rows.rows → AreClearedAt rows.rows rows.row_count pivots r → AreReducedModulo side_words (read h b) terms n (coordinate_rows side_words (read h b) terms n rows)
        rows_modulo d c = modulo_from (coboundaries side_words (read h b) terms n) rows.row_count r rows.rows pivots grid p (subst (λ n. IsReduced n rows.rows) u d) c

        pub rows_reduced : AreReducedModulo side_words (read h b) terms n (coordinate_rows side_words (read h b) terms n rows) → IsReduced rows.col_count rows.rows
        rows_reduced d = subst (λ n. IsReduced n rows.rows) (sym u) (reduced_from_modulo (coboundaries side_words (read h b) terms n) rows.row_count r rows.rows pivots grid p d)

        pub rows_cleared : AreReducedModulo side_words (read h b) terms n (coordinate_rows side_words (read h b) terms n rows) → AreClearedAt rows.rows rows.row_count pivots r
        rows_cleared d = cleared_from_modulo (coboundaries side_words (read h b) terms n) rows.row_count r rows.rows pivots grid p d

        pub places_inside : (k : ℕ) → k < r → slice_index pivots k < rows.col_count
        places_inside k l = subst (λ n. slice_index pivots k < n) (sym u) (pivots_inside (coboundaries side_words (read h b) terms n) rows.row_count r rows.rows pivots grid p k l)

        pub all_is : (e o k : ℕ) → e ≡ rows.row_count → k ≡ rows.col_count → o ≡ rank (cocycle_matrix side_words (read h b) terms n) → e + r + o ≡ k → AreAllCocycles side_words (read h b) terms n (coordinate_rows side_words (read h b) terms n rows)
        all_is e o k x y z s = let i = rank_of_pivots (coboundaries side_words (read h b) terms n) r pivots p in omega (arith, x, y, z, s, i, u)

        pub all_means : (e o k : ℕ) → e ≡ rows.row_count → k ≡ rows.col_count → o ≡ rank (cocycle_matrix side_words (read h b) terms n) → AreAllCocycles side_words (read h b) terms n (coordinate_rows side_words (read h b) terms n rows) → e + r + o ≡ k
        all_means e o k x y z s = let i = rank_of_pivots (coboundaries side_words (read h b) terms n) r pivots p in omega (arith, x, y, z, s, i, u)

-- One side puts the first condition before them.
pub answer_with_sides : (h : Header) (words : List Path) (t : IsTable h words) (a b : Module) (terms : List TermRows) (n : ℕ) (rows : PlainMatrix) (answer : Option Clause) → a.side ≡ b.side
    → IsAnswer (row_conditions (sided_words b.side (table_sides h words t)).words (read h b) terms n rows) answer → IsAnswer (extension_conditions ⊤ h (table_sides h words t) a b terms n rows) answer
answer_with_sides h words t a b terms n rows None e s =
    ((tt, e), subst (λ side. IsAnswer (row_conditions (sided_words side (table_sides h words t)).words (rep_of h.field (algebra_at side h).quiver b) terms n rows) None) (sym e) s)
answer_with_sides h words t a b terms n rows (Some which) e s =
    let later = subst (λ side. IsAnswer (row_conditions (sided_words side (table_sides h words t)).words (rep_of h.field (algebra_at side h).quiver b) terms n rows) (Some which)) (sym e) s in
    (suc later.0, ((tt, e), later.1))
