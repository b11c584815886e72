-- Zero products and ranks, one vertex after another.
use Rattle.std.proofs.Common.{ℕ, ◌≡◌, ◌+◌, ◌*◌, List, take, get_or, inl, inr, refl, sym, ap, ◌∙◌, arith, subst}
use Rattle.std.specs.Prelude.{slice_index}
use Rattle.std.proofs.lemmas.Bool.{cases_eq}
use Rattle.std.proofs.lemmas.List.{get_or-take}
use Rattle.linear_algebra.specs.Field.{Gf}
use Rattle.linear_algebra.specs.Matrix.{Mat, zeros, ◌·◌, transpose}
use Rattle.linear_algebra.specs.Ranks.{rank}
use Rattle.linear_algebra.specs.Reduced.{ReducesTo}
use Rattle.linear_algebra.specs.Rows.{rows_of}
use Rattle.linear_algebra.specs.Typed.{as_mat}
use Rattle.linear_algebra.proofs.Dimension.{rank_is}
use Rattle.linear_algebra.proofs.RankExists.{rank_factorisation}
use Rattle.fp_linear.specs.Matrix.{PlainMatrix}
use Rattle.fp_linear.specs.Slices.{AreElements}
use Rattle.fp_linear.proofs.Cells.{cell-is, IsGrid-rows_of}
use Rattle.fp_linear.proofs.RankOf.{rank_of_answer}
use Rattle.quiver_paths.specs.declared.Path.{Path}
use Rattle.path_algebra.specs.declared.Header.{Header}
use Rattle.alg_table.specs.TableView.{IsTable}
use Rattle.module_types.specs.declared.Side.{Side}
use Rattle.module_types.specs.declared.Module.{Module}
use Rattle.module_types.specs.declared.TermRows.{TermRows}
use Rattle.module_types.specs.Readings.{family_of}
use Rattle.term_rows.specs.TermCells.{FirstRows}
use Rattle.term_rows.proofs.TermRowCells.{matrix_of_rows, row_within}
use Rattle.translate_checks.specs.Across.{across, transposed_in}
use Rattle.translate_checks.specs.Steps.{module_in, module_across, injectives_in, AreKilled, Kill, HaveSizes}

-- the rank that elimination of rows in a slice answers
pub rank_of_rows : (q : Gf) (m n rows columns : ℕ) (M : Mat q m n) (whole old new pivots : List ℕ) (r : ℕ) → m ≡ rows → n ≡ columns → FirstRows M columns rows whole → old ≡ take (rows * columns) whole
    → AreElements q old → AreElements q new → ReducesTo q columns (rows_of rows columns old) (rows_of rows columns new) pivots r → r ≡ rank M
rank_of_rows q m n rows columns M whole old new pivots r e d F te a b f =
    let R : ReducesTo q n (rows_of m n old) (rows_of m n new) pivots r =
    subst (λ m. ReducesTo q n (rows_of m n old) (rows_of m n new) pivots r) (sym e) (subst (λ n. ReducesTo q n (rows_of rows n old) (rows_of rows n new) pivots r) (sym d) f) in
    let G = rank_factorisation (as_mat q m n (rows_of m n old)) in
    let cut : FirstRows M columns rows old = record {
      at = λ i j l k.
          let w = row_within columns i rows (rows * columns) l refl in
          cell-is columns old i j ∙ ap (λ s. get_or s (i * columns + j) 0) te ∙ get_or-take (rows * columns) whole (i * columns + j) 0 (omega (arith, w, k)) ∙ sym (cell-is columns whole i j) ∙ F.at i j l k;
    } in
    sym (rank_is G ∙ rank_of_answer q m n (rows_of m n old) (rows_of m n new) pivots r (IsGrid-rows_of q m n old a) (IsGrid-rows_of q m n new b) R G) ∙ ap rank (matrix_of_rows M rows columns old a e d cut)

module _ (h : Header) (words : List Path) (t : IsTable h words) (side : Side) (cover : List ℕ) (syzygy : TermRows) where
  module _ (m : Module) (matrices : List PlainMatrix) where
    pub killed-none : AreKilled h words t side cover syzygy m matrices 0
    killed-none = record { at = λ w l. absurd (omega arith) }

    pub killed-more : (w : ℕ) → AreKilled h words t side cover syzygy m matrices w
        → family_of (module_in h words t side m) (injectives_in h words t side syzygy.vertices) matrices w · transpose (transposed_in h words t side cover syzygy w)
        ≡ zeros h.field ((module_in h words t side m).dim w) ((injectives_in h words t side cover).dim w)
        → AreKilled h words t side cover syzygy m matrices (w + 1)
    killed-more w k e = record {
      at = λ v l. elim (cases_eq v w) [
        | inl f ↦ subst (λ v. family_of (module_in h words t side m) (injectives_in h words t side syzygy.vertices) matrices v · transpose (transposed_in h words t side cover syzygy v)
            ≡ zeros h.field ((module_in h words t side m).dim v) ((injectives_in h words t side cover).dim v)) (sym f) e
        | inr d ↦ k.at v (omega arith)
      ];
    }

    pub kill-none : Kill h words t side cover syzygy m matrices 0
    kill-none = record { at = λ w l. absurd (omega arith) }

    pub kill-more : (w : ℕ) → Kill h words t side cover syzygy m matrices w
        → transposed_in h words t side cover syzygy w · family_of (across h words t side syzygy.vertices) (module_across h words t side m) matrices w
        ≡ zeros h.field ((across h words t side cover).dim w) ((module_across h words t side m).dim w)
        → Kill h words t side cover syzygy m matrices (w + 1)
    kill-more w k e = record {
      at = λ v l. elim (cases_eq v w) [
        | inl f ↦ subst (λ v. transposed_in h words t side cover syzygy v · family_of (across h words t side syzygy.vertices) (module_across h words t side m) matrices v
            ≡ zeros h.field ((across h words t side cover).dim v) ((module_across h words t side m).dim v)) (sym f) e
        | inr d ↦ k.at v (omega arith)
      ];
    }

  pub sizes-none : (dims : List ℕ) → HaveSizes h words t side cover syzygy dims 0
  sizes-none dims = record { at = λ w l. absurd (omega arith) }

  pub sizes-more : (dims : List ℕ) (w d r n : ℕ) → d ≡ slice_index dims w → r ≡ rank (transposed_in h words t side cover syzygy w) → n ≡ (across h words t side syzygy.vertices).dim w → d + r ≡ n
      → HaveSizes h words t side cover syzygy dims w → HaveSizes h words t side cover syzygy dims (w + 1)
  sizes-more dims w d r n de re ne e s = record {
    at = λ v l. elim (cases_eq v w) [
      | inl f ↦ subst (λ v. slice_index dims v + rank (transposed_in h words t side cover syzygy v) ≡ (across h words t side syzygy.vertices).dim v) (sym f) (omega (arith, de, re, ne, e))
      | inr d ↦ s.at v (omega arith)
    ];
  }

  pub sizes-fail : (dims : List ℕ) (w d r n : ℕ) → d ≡ slice_index dims w → r ≡ rank (transposed_in h words t side cover syzygy w) → n ≡ (across h words t side syzygy.vertices).dim w
      → slice_index dims w + rank (transposed_in h words t side cover syzygy w) ≡ (across h words t side syzygy.vertices).dim w → d + r ≡ n
  sizes-fail dims w d r n de re ne e = omega (arith, de, re, ne, e)
