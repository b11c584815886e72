-- The rows of the transposed pullback: those of the transposed map, and of θ by the dual of the module.
use Rattle.std.proofs.Common.{ℕ, ◌≡◌, ◌<◌, ◌≤◌, ◌+◌, ◌-◌, List, length, get_or, inl, inr, sym, ap, ap₂, ◌∙◌, arith, subst}
use Rattle.std.specs.Prelude.{slice_index}
use Rattle.std.proofs.lemmas.Bool.{cases_lt}
use Rattle.linear_algebra.specs.Field.{Gf, mul, neg}
use Rattle.linear_algebra.specs.FieldLaws.{mul_comm, mul_zero}
use Rattle.linear_algebra.specs.Sums.{sum-same, sum-zeros}
use Rattle.linear_algebra.specs.Matrix.{negative, stack}
use Rattle.linear_algebra.specs.BlockFamilies.{total}
use Rattle.linear_algebra.proofs.Blocks.{join-first, join-shifted}
use Rattle.linear_algebra.proofs.MatrixLaws.{transpose-at}
use Rattle.fp_linear.specs.Matrix.{PlainMatrix}
use Rattle.quiver_paths.specs.declared.Path.{Path}
use Rattle.path_algebra.specs.declared.Header.{Header}
use Rattle.path_algebra.specs.Rows.{path_at}
use Rattle.alg_table.specs.TableView.{IsTable}
use Rattle.alg_table.specs.WordPlaces.{AreWordsAt}
use Rattle.representations.specs.Quiver.{Quiver}
use Rattle.representations.specs.Rep.{Rep}
use Rattle.representations.specs.Dual.{dual}
use Rattle.projectives.specs.CanonicalCover.{vertex_in}
use Rattle.projectives.specs.TwoSided.{other}
use Rattle.module_types.specs.declared.Side.{Side}
use Rattle.module_types.specs.declared.Module.{Module}
use Rattle.module_types.specs.declared.TermRows.{TermRows}
use Rattle.module_types.specs.Algebras.{other_side}
use Rattle.module_types.specs.Walks.{step}
use Rattle.module_types.specs.TermMatrices.{rows_along, columns_along}
use Rattle.module_types.specs.Presentations.{nakayama_of}
use Rattle.module_types.proofs.TermMatrices.{rows_along-row}
use Rattle.module_types.proofs.Presentations.{nakayama_of-at}
use Rattle.module_checks.proofs.HomRank.{IsPlainOf}
use Rattle.term_rows.specs.SumDims.{side_in_table}
use Rattle.term_rows.specs.RowSteps.{IsStep, part_dim}
use Rattle.term_rows.proofs.SumSteps.{count_is}
use Rattle.term_rows.proofs.AddedWords.{count_places}
use Rattle.translate_checks.specs.Across.{sides_of, presentation, transposed_in, IsPresentation}
use Rattle.translate_checks.specs.Dots.{row_dot}
use Rattle.translate_checks.specs.Steps.{injectives_in}
use Rattle.translate_checks.proofs.AcrossRows.{row_across, starts_across, count_across}
use Rattle.translate_checks.proofs.TransposedRows.{cell_held}
use Rattle.sequence_checks.specs.Pullbacks.{dual_in, part_row, theta_in, pulled_back, HoldsPartAlong, IsPulledRow}

-- An arrow takes a row of the dual to the products of the rows of its matrix with it.
pub dual_step : {q : Gf} {Q : Quiver} (M : Rep q Q) (a : ℕ) (p : PlainMatrix) (x : IsPlainOf p (M.mat a)) (old new : List ℕ) → ((j : ℕ) → j < p.row_count → slice_index new j ≡ row_dot q p.col_count p j old 0)
    → ((j : ℕ) → p.row_count ≤ j → slice_index new j ≡ 0) → IsStep (dual M) a old new
unfolding step
dual_step {q} {Q} M a p x old new e z = record {
  at = λ j. elim (cases_lt j p.row_count) [
    | inl l ↦
        e j l ∙ ap (λ n. row_dot q n p j old 0) x.col_count
        ∙ sum-same q (M.dim (Q.target a)) _ _ (λ t b.
        ap₂ (mul q) (x.entries j t) (ap (slice_index old) (from_zero t)) ∙ mul_comm q _ _ ∙ ap (mul q (slice_index old t)) (sym (transpose-at (M.mat a) t j)))
    | inr b ↦
        z j b ∙ sym (sum-zeros q (M.dim (Q.target a)) _ (λ t l.
        ap (mul q (slice_index old t)) (transpose-at (M.mat a) t j ∙ (M.mat a).fits.below j t (omega (arith, x.row_count, b))) ∙ mul_zero q _))
  ];
}
  where
    from_zero : (i : ℕ) → ◌≡◌ {A = ℕ} (0 + i) i
    from_zero i = omega arith

module _ (h : Header) (words : List Path) (t : IsTable h words) (side : Side) (m : Module) (cover functional : List ℕ) where
  -- the row of θ, transposed, at the place of generator j and word i
  pub theta_cell : (w j i z : ℕ) (places s : List ℕ) → j < length cover → AreWordsAt words (side_in_table (other_side side)) (vertex_in cover j) w places → i < length places
      → HoldsPartAlong h words t side m cover functional j (path_at words (get_or places i 0)).arrows s
      → (theta_in h words t side m cover functional w).at z (total j (part_dim words (other_side side) cover w) + i) ≡ slice_index s z
  unfolding columns_along
  theta_cell w j i z places s l a b r =
      let S = sides_of h words t side in
      let X = dual_in h words t side m cover functional in
      let R = rows_along (other S) X (length cover) (vertex_in cover) (part_row h words t side m cover functional) w in
      let n : (other S).count (vertex_in cover j) w ≡ length places =
      count_is h words t side w (vertex_in cover j) ∙ sym (count_across words side (vertex_in cover j) w) ∙ sym (count_is h words t (other_side side) (vertex_in cover j) w) ∙ count_places h words t (other_side side) (vertex_in cover j) w places a in
      transpose-at R z (total j (part_dim words (other_side side) cover w) + i)
      ∙ ap (λ n. R.at (n + i) z) (starts_across h words t side cover w j)
      ∙ rows_along-row (other S) X (length cover) (vertex_in cover) (part_row h words t side m cover functional) w j i z l (subst (λ n. i < n) (sym n) b)
      ∙ row_across h words t side X (vertex_in cover j) w i z places r.first (part_row h words t side m cover functional j) a b r.holds.at
      ∙ sym (r.along z)

  -- the row of the pullback, transposed
  pub pulled_cell : (syzygy : TermRows) (p : IsPresentation words h side cover syzygy) (w j i at a b c : ℕ) (places s : List ℕ) → j < length cover → at ≡ total j (part_dim words (other_side side) cover w)
      → AreWordsAt words (side_in_table (other_side side)) (vertex_in cover j) w places → i < length places → a ≡ (injectives_in h words t side syzygy.vertices).dim w
      → IsPulledRow h words t side m cover functional syzygy j (path_at words (get_or places i 0)).arrows a b s → c < a + b → slice_index s c ≡ (pulled_back h words t side m cover functional syzygy w).at (at + i) c
  unfolding stack negative
  pulled_cell syzygy p w j i at a b c places s l e A k ae r ck = elim (cases_lt c a) [
    | inl u ↦
        r.first c u ∙ cell_held h words t side cover syzygy p w j i at c places r.left l e A k r.mapped
        ∙ sym (transpose-at (transposed_in h words t side cover syzygy w) c (at + i))
        ∙ sym (ap (λ z. z.at c (at + i)) (nakayama_of-at (sides_of h words t side) (presentation cover syzygy) w))
        ∙ sym (join-first ((injectives_in h words t side syzygy.vertices).dim w) (λ u. ((nakayama_of (sides_of h words t side) (presentation cover syzygy)).at w).at u (at + i)) (λ u. neg h.field ((theta_in h words t side m cover functional w).at u (at + i))) c (omega (arith, u, ae)))
        ∙ sym (transpose-at (stack ((nakayama_of (sides_of h words t side) (presentation cover syzygy)).at w) (negative (theta_in h words t side m cover functional w))) (at + i) c)
    | inr g ↦
        let d = c - a in
        let back : c ≡ a + d = omega (arith, g) in
        ap (slice_index s) back ∙ r.second d (omega (arith, ck, g))
        ∙ ap (neg h.field) (sym (theta_cell w j i d places r.right l A k r.valued) ∙ ap (λ n. (theta_in h words t side m cover functional w).at d (n + i)) (sym e))
        ∙ sym (join-shifted ((injectives_in h words t side syzygy.vertices).dim w) (λ u. ((nakayama_of (sides_of h words t side) (presentation cover syzygy)).at w).at u (at + i)) (λ u. neg h.field ((theta_in h words t side m cover functional w).at u (at + i))) d)
        ∙ sym (transpose-at (stack ((nakayama_of (sides_of h words t side) (presentation cover syzygy)).at w) (negative (theta_in h words t side m cover functional w))) (at + i) ((injectives_in h words t side syzygy.vertices).dim w + d))
        ∙ ap (λ z. (pulled_back h words t side m cover functional syzygy w).at (at + i) z) (ap (λ z. z + d) (sym ae) ∙ sym back)
  ]
