-- The conditions on embeddings and projections, and what is decided.
use Rattle.std.proofs.Common.{ℕ, ◌≡◌, ◌+◌, List, length, inl, inr, sym, ap, ap₂, ◌∙◌, arith}
use Rattle.std.proofs.lemmas.Bool.{cases_lt}
use Rattle.linear_algebra.specs.Matrix.{Mat-eq_below, zeros, ◌·◌}
use Rattle.linear_algebra.specs.Ranks.{rank}
use Rattle.linear_algebra.proofs.Dimension.{rank_transpose}
use Rattle.linear_algebra.proofs.Ranks.{rank_at_most_rows, rank_at_most_columns}
use Rattle.fp_linear.specs.Matrix.{PlainMatrix}
use Rattle.quiver_paths.specs.declared.Path.{Path}
use Rattle.path_algebra.specs.declared.Header.{Header}
use Rattle.alg_table.specs.TableView.{IsTable}
use Rattle.representations.specs.Quiver.{opposite}
use Rattle.module_types.specs.declared.Side.{Side}
use Rattle.module_types.specs.declared.Module.{Module}
use Rattle.module_types.specs.declared.TermRows.{TermRows}
use Rattle.module_types.specs.Algebras.{algebra_at, other_side}
use Rattle.module_types.specs.Readings.{dim_at, family_of, IsHom}
use Rattle.module_types.specs.Presentations.{nakayama_of, transposed_of}
use Rattle.module_types.specs.Shapes.{AreMatrices}
use Rattle.module_types.proofs.Presentations.{nakayama_of-at}
use Rattle.claim_conditions.specs.Families.{AreReduced, AreCoReduced, HasKernelSize, HasCokernelSize}
use Rattle.claim_conditions.specs.TranslateConditions.{IsInside, IsOutside}
use Rattle.module_checks.specs.VertexMatrices.{AreAllReduced, AreAllColumnReduced}
use Rattle.module_checks.proofs.HomRank.{dim_at-is}
use Rattle.module_checks.proofs.VertexMatrices.{reduced_family, family_reduced, column_reduced_family, family_column_reduced}
use Rattle.term_rows.specs.SumDims.{sum_dim}
use Rattle.translate_checks.specs.Across.{sides_of, across, transposed_in, of_terms}
use Rattle.translate_checks.specs.Steps.{module_in, module_across, injectives_in, AreKilled, Kill, HaveSizes}
use Rattle.translate_checks.proofs.Ends.{shapes_into, shapes_from}

module _ (h : Header) (words : List Path) (t : IsTable h words) (side : Side) (cover syzygy : TermRows) (n : Module) (rows : List PlainMatrix) where
  module _ (counted : length n.dims ≡ (algebra_at side h).quiver.vertices)
      (R : AreMatrices h.field (algebra_at side h).quiver.vertices (dim_at (algebra_at side h).quiver n.dims) (sum_dim words (other_side side) syzygy.vertices) rows) where
    pub reduced_yes : AreAllReduced (length rows) rows → AreReduced (module_in h words t side n) (injectives_in h words t side syzygy.vertices) (family_of (module_in h words t side n) (injectives_in h words t side syzygy.vertices) rows)
    reduced_yes = reduced_family (module_in h words t side n) (injectives_in h words t side syzygy.vertices) rows (shapes_into h words t side n syzygy.vertices rows R)

    pub reduced_no : AreReduced (module_in h words t side n) (injectives_in h words t side syzygy.vertices) (family_of (module_in h words t side n) (injectives_in h words t side syzygy.vertices) rows) → AreAllReduced (length rows) rows
    reduced_no = family_reduced (module_in h words t side n) (injectives_in h words t side syzygy.vertices) rows (shapes_into h words t side n syzygy.vertices rows R)

    pub inside_yes : IsHom (module_in h words t side n) (injectives_in h words t side syzygy.vertices) (family_of (module_in h words t side n) (injectives_in h words t side syzygy.vertices) rows)
        → AreKilled h words t side cover.vertices syzygy n rows (length n.dims) → IsInside (sides_of h words t side) (of_terms cover syzygy) (module_in h words t side n) rows
    unfolding zeros
    inside_yes f k = record {
      hom = f;
      zero = λ w. elim (cases_lt w (length n.dims)) [
        | inl l ↦ ap (λ m. family_of (module_in h words t side n) (injectives_in h words t side syzygy.vertices) rows w · m) (nakayama_of-at (sides_of h words t side) (of_terms cover syzygy) w) ∙ k.at w l
        | inr b ↦ Mat-eq_below _ _ (λ i j u v. absurd (let e = (module_in h words t side n).past w (omega (arith, b, counted)) in omega (arith, e, u)))
      ];
    }

    pub inside_zero : IsInside (sides_of h words t side) (of_terms cover syzygy) (module_in h words t side n) rows → AreKilled h words t side cover.vertices syzygy n rows (length n.dims)
    inside_zero i = record {
      at = λ w l. ap (λ m. family_of (module_in h words t side n) (injectives_in h words t side syzygy.vertices) rows w · m) (sym (nakayama_of-at (sides_of h words t side) (of_terms cover syzygy) w)) ∙ i.zero w;
    }

    rank_is : (w : ℕ) → rank ((nakayama_of (sides_of h words t side) (of_terms cover syzygy)).at w) ≡ rank (transposed_in h words t side cover.vertices syzygy w)
    rank_is w = ap rank (nakayama_of-at (sides_of h words t side) (of_terms cover syzygy) w) ∙ rank_transpose (transposed_in h words t side cover.vertices syzygy w)

    pub size_yes : HaveSizes h words t side cover.vertices syzygy n.dims (length n.dims)
        → HasKernelSize (module_in h words t side n) (injectives_in h words t side syzygy.vertices) (injectives_in h words t side cover.vertices) (nakayama_of (sides_of h words t side) (of_terms cover syzygy)).at
    size_yes s w = elim (cases_lt w (length n.dims)) [
      | inl l ↦ ap₂ (λ x y. x + y) (dim_at-is (algebra_at side h).quiver n.dims w (omega (arith, l, counted))) (rank_is w) ∙ s.at w l
      | inr b ↦
          let x = (module_in h words t side n).past w (omega (arith, b, counted)) in
          let y = (injectives_in h words t side syzygy.vertices).past w (omega (arith, b, counted)) in
          let r = rank_at_most_rows ((nakayama_of (sides_of h words t side) (of_terms cover syzygy)).at w) in
          omega (arith, x, y, r)
    ]

    pub size_no : HasKernelSize (module_in h words t side n) (injectives_in h words t side syzygy.vertices) (injectives_in h words t side cover.vertices) (nakayama_of (sides_of h words t side) (of_terms cover syzygy)).at
        → HaveSizes h words t side cover.vertices syzygy n.dims (length n.dims)
    size_no k = record { at = λ w l. ap₂ (λ x y. x + y) (sym (dim_at-is (algebra_at side h).quiver n.dims w (omega (arith, l, counted)))) (sym (rank_is w)) ∙ k w }

  module _ (counted : length n.dims ≡ (opposite (algebra_at side h).quiver).vertices)
      (R : AreMatrices h.field (algebra_at side h).quiver.vertices (sum_dim words (other_side side) syzygy.vertices) (dim_at (opposite (algebra_at side h).quiver) n.dims) rows) where
    pub co_reduced_yes : AreAllColumnReduced (length rows) rows → AreCoReduced (across h words t side syzygy.vertices) (module_across h words t side n) (family_of (across h words t side syzygy.vertices) (module_across h words t side n) rows)
    co_reduced_yes = column_reduced_family (across h words t side syzygy.vertices) (module_across h words t side n) rows (shapes_from h words t side n syzygy.vertices rows R)

    pub co_reduced_no : AreCoReduced (across h words t side syzygy.vertices) (module_across h words t side n) (family_of (across h words t side syzygy.vertices) (module_across h words t side n) rows) → AreAllColumnReduced (length rows) rows
    co_reduced_no = family_column_reduced (across h words t side syzygy.vertices) (module_across h words t side n) rows (shapes_from h words t side n syzygy.vertices rows R)

    pub outside_yes : IsHom (across h words t side syzygy.vertices) (module_across h words t side n) (family_of (across h words t side syzygy.vertices) (module_across h words t side n) rows)
        → Kill h words t side cover.vertices syzygy n rows (length n.dims) → IsOutside (sides_of h words t side) (of_terms cover syzygy) (module_across h words t side n) rows
    unfolding zeros
    outside_yes f k = record {
      hom = f;
      zero = λ w. elim (cases_lt w (length n.dims)) [
        | inl l ↦ k.at w l
        | inr b ↦ Mat-eq_below _ _ (λ i j u v. absurd (let e = (module_across h words t side n).past w (omega (arith, b, counted)) in omega (arith, e, v)))
      ];
    }

    pub outside_zero : IsOutside (sides_of h words t side) (of_terms cover syzygy) (module_across h words t side n) rows → Kill h words t side cover.vertices syzygy n rows (length n.dims)
    outside_zero i = record { at = λ w l. i.zero w }

    turned : (x y z : ℕ) → x + y ≡ z → y + x ≡ z
    turned x y z e = omega (arith, e)

    pub cosize_yes : HaveSizes h words t side cover.vertices syzygy n.dims (length n.dims)
        → HasCokernelSize (across h words t side cover.vertices) (across h words t side syzygy.vertices) (module_across h words t side n) (transposed_of (sides_of h words t side) (of_terms cover syzygy)).at
    cosize_yes s w = elim (cases_lt w (length n.dims)) [
      | inl l ↦ turned ((module_across h words t side n).dim w) (rank (transposed_in h words t side cover.vertices syzygy w)) _
          (ap (λ x. x + rank (transposed_in h words t side cover.vertices syzygy w)) (dim_at-is (opposite (algebra_at side h).quiver) n.dims w (omega (arith, l, counted))) ∙ s.at w l)
      | inr b ↦
          let x = (module_across h words t side n).past w (omega (arith, b, counted)) in
          let y = (across h words t side syzygy.vertices).past w (omega (arith, b, counted)) in
          let r = rank_at_most_columns (transposed_in h words t side cover.vertices syzygy w) in
          omega (arith, x, y, r)
    ]

    pub cosize_no : HasCokernelSize (across h words t side cover.vertices) (across h words t side syzygy.vertices) (module_across h words t side n) (transposed_of (sides_of h words t side) (of_terms cover syzygy)).at
        → HaveSizes h words t side cover.vertices syzygy n.dims (length n.dims)
    cosize_no k = record {
      at = λ w l. ap (λ x. x + rank (transposed_in h words t side cover.vertices syzygy w)) (sym (dim_at-is (opposite (algebra_at side h).quiver) n.dims w (omega (arith, l, counted))))
          ∙ turned (rank (transposed_in h words t side cover.vertices syzygy w)) ((module_across h words t side n).dim w) _ (k w);
    }
