-- Ranks of the matrices of terms, and exactness by them.
use Rattle.std.proofs.Common.{ℕ, zero, suc, ◌≡◌, ◌<◌, ◌+◌, List, inl, inr, refl, sym, ap, ap₂, ◌∙◌, arith, subst, add-one}
use Rattle.std.proofs.lemmas.Bool.{cases_eq}
use Rattle.linear_algebra.specs.Field.{Gf}
use Rattle.linear_algebra.specs.Matrix.{Mat}
use Rattle.linear_algebra.specs.Ranks.{rank}
use Rattle.linear_algebra.specs.Reduced.{ReducesTo}
use Rattle.linear_algebra.specs.Rows.{rows_of}
use Rattle.linear_algebra.specs.Typed.{as_mat}
use Rattle.linear_algebra.proofs.Dimension.{rank_is}
use Rattle.linear_algebra.proofs.RankExists.{rank_factorisation}
use Rattle.fp_linear.specs.Slices.{AreElements}
use Rattle.fp_linear.proofs.Cells.{IsGrid-rows_of}
use Rattle.fp_linear.proofs.RankOf.{rank_of_answer}
use Rattle.quiver_paths.specs.declared.Path.{Path}
use Rattle.quiver_paths.specs.Quiver.{vertex_count}
use Rattle.path_algebra.specs.declared.Header.{Header}
use Rattle.alg_table.specs.TableView.{IsTable}
use Rattle.module_types.specs.declared.Module.{Module}
use Rattle.module_types.specs.declared.TermRows.{TermRows}
use Rattle.module_types.specs.Readings.{read}
use Rattle.claim_conditions.specs.Terms.{vertices_at}
use Rattle.claim_conditions.specs.ResolutionConditions.{IsOntoByRanks, IsExactByRanks}
use Rattle.term_rows.specs.SumDims.{sum_dim, covered_dim}
use Rattle.term_rows.specs.TermCells.{term_sum, term_target, matrix_in}
use Rattle.term_rows.proofs.SumSteps.{sum_dim_is}
use Rattle.term_rows.proofs.WordRows.{covered_is}
use Rattle.resolution_checks.specs.Steps.{words_of_side, ExactAt, ExactBelow, ExactUpTo, OntoBelow}
use Rattle.resolution_checks.proofs.CompositesAt.{held_in, side_vertices}

pub rank_of_slice : (q : Gf) (m n rows columns : ℕ) (M : Mat q m n) (old new pivots : List ℕ) (r : ℕ) → m ≡ rows → n ≡ columns → AreElements q old → AreElements q new
    → ReducesTo q columns (rows_of rows columns old) (rows_of rows columns new) pivots r → as_mat q m n (rows_of m n old) ≡ M → r ≡ rank M
rank_of_slice q m n rows columns M old new pivots r e d a b f h =
    let R : ReducesTo q n (rows_of m n old) (rows_of m n new) pivots r =
    subst (λ m. ReducesTo q n (rows_of m n old) (rows_of m n new) pivots r) (sym e) (subst (λ n. ReducesTo q n (rows_of rows n old) (rows_of rows n new) pivots r) (sym d) f) in
    let F = rank_factorisation (as_mat q m n (rows_of m n old)) in
    sym (rank_is F ∙ rank_of_answer q m n (rows_of m n old) (rows_of m n new) pivots r (IsGrid-rows_of q m n old a) (IsGrid-rows_of q m n new b) R F) ∙ ap rank h

module _ (h : Header) (words : List Path) (t : IsTable h words) (a : Module) (terms : List TermRows) where
  pub term_rank_is : (k w rows columns : ℕ) (old new pivots : List ℕ) (r : ℕ) → rows ≡ sum_dim words a.side (vertices_at terms k) w → columns ≡ covered_dim words h a terms k w → AreElements h.field old → AreElements h.field new
      → ReducesTo h.field columns (rows_of rows columns old) (rows_of rows columns new) pivots r → held_in h words t a terms k w old → r ≡ rank (matrix_in h words t a terms k w)
  term_rank_is k w rows columns old new pivots r re ce x y f m =
      rank_of_slice h.field _ _ rows columns (matrix_in h words t a terms k w) old new pivots r (sum_dim_is h words t a.side (vertices_at terms k) w ∙ sym re) (covered_is h words t a terms k w ∙ sym ce) x y f m

  -- what is summed
  pub sum_of_ranks : (k w r s d : ℕ) → r ≡ rank (matrix_in h words t a terms (k + 1) w) → s ≡ rank (matrix_in h words t a terms k w) → d ≡ sum_dim words a.side (vertices_at terms k) w → r + s ≡ d → ExactAt h words t a terms k w
  sum_of_ranks k w r s d re se de e =
      sym (ap₂ (λ x y. x + y) (re ∙ ap (λ n. rank (matrix_in h words t a terms n w)) (add-one k)) se) ∙ e ∙ de ∙ sym (sum_dim_is h words t a.side (vertices_at terms k) w)

  pub ranks_of_sum : (k w r s d : ℕ) → r ≡ rank (matrix_in h words t a terms (k + 1) w) → s ≡ rank (matrix_in h words t a terms k w) → d ≡ sum_dim words a.side (vertices_at terms k) w → ExactAt h words t a terms k w → r + s ≡ d
  ranks_of_sum k w r s d re se de e =
      ap₂ (λ x y. x + y) (re ∙ ap (λ n. rank (matrix_in h words t a terms n w)) (add-one k)) se ∙ e ∙ sum_dim_is h words t a.side (vertices_at terms k) w ∙ sym de

  pub exact_more : (k w : ℕ) → ExactBelow h words t a terms k w → ExactAt h words t a terms k w → ExactBelow h words t a terms k (w + 1)
  exact_more k w b c = record { at = λ v l. elim (cases_eq v w) [ inl e ↦ subst (ExactAt h words t a terms k) (sym e) c | inr d ↦ b.at v (omega arith) ] }

  pub exact_up : (k : ℕ) → ExactUpTo h words t a terms k → ExactBelow h words t a terms k (vertex_count h.quiver) → ExactUpTo h words t a terms (k + 1)
  exact_up k b c = record { at = λ v l. elim (cases_eq v k) [ inl e ↦ subst (λ k. ExactBelow h words t a terms k (vertex_count h.quiver)) (sym e) c | inr d ↦ b.at v (omega arith) ] }

  pub onto_more : (w r d : ℕ) → OntoBelow h words t a terms w → r ≡ rank (matrix_in h words t a terms 0 w) → d ≡ covered_dim words h a terms 0 w → r ≡ d → OntoBelow h words t a terms (w + 1)
  onto_more w r d b re de e = record {
    at = λ v l. elim (cases_eq v w) [
      | inl s ↦ subst (λ v. rank (matrix_in h words t a terms 0 v) ≡ (read h a).dim v) (sym s) (sym re ∙ e ∙ de ∙ sym (covered_is h words t a terms 0 w))
      | inr d ↦ b.at v (omega arith)
    ];
  }

  -- in the words of the conditions
  pub exact_from : (n : ℕ) → ExactUpTo h words t a terms n → IsExactByRanks (words_of_side h words t a terms) (read h a) terms n
  exact_from n u = λ k w l b. (u.at k l).at w (subst (λ v. w < v) (side_vertices a.side h) b)

  pub exact_to : (n k : ℕ) → k < n → IsExactByRanks (words_of_side h words t a terms) (read h a) terms n → ExactBelow h words t a terms k (vertex_count h.quiver)
  exact_to n k l c = record { at = λ w b. c k w l (subst (λ v. w < v) (sym (side_vertices a.side h)) b) }

  pub onto_from : OntoBelow h words t a terms (vertex_count h.quiver) → IsOntoByRanks (words_of_side h words t a terms) (read h a) terms
  onto_from u = λ w b. u.at w (subst (λ v. w < v) (side_vertices a.side h) b)

  pub onto_fails : (w r d : ℕ) → w < vertex_count h.quiver → r ≡ rank (matrix_in h words t a terms 0 w) → d ≡ covered_dim words h a terms 0 w → IsOntoByRanks (words_of_side h words t a terms) (read h a) terms → r ≡ d
  onto_fails w r d b re de c = re ∙ c w (subst (λ v. w < v) (sym (side_vertices a.side h)) b) ∙ covered_is h words t a terms 0 w ∙ sym de
