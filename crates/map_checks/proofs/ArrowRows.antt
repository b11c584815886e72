-- The span of the rows of the arrows to a vertex, by the columns that they take to zero.
use Rattle.std.proofs.Common.{ℕ, ◌<◌, ◌≤◌, ◌≡◌, ◌≢◌, ◌+◌, ◌*◌, ◌/◌, ◌%◌, ◌⊎◌, List, length, take, get_or, refl, sym, ap, ap₂, ◌∙◌, inl, inr, arith, subst, mod-lt, mod-eq_of_lt, div-add-mod', mul-le-mul_right}
use Rattle.std.specs.Bool.{⊤}
use Rattle.std.specs.Prelude.{slice_index_or}
use Rattle.std.proofs.lemmas.Bool.{cases_lt, cases_eq}
use Rattle.std.proofs.lemmas.Nat.{mul-add-lt, div-mul-add, mod-mul-add}
use Rattle.linear_algebra.specs.Field.{Gf, add, mul}
use Rattle.linear_algebra.specs.FieldLaws.{zero_add}
use Rattle.linear_algebra.specs.Sums.{sum_to, sum_below, sum-ext}
use Rattle.linear_algebra.specs.Matrix.{Mat, Column, Mat-eq_below, zeros, one, ◌·◌}
use Rattle.linear_algebra.specs.MatrixLaws.{mul_assoc_mat, mul_zeros, zeros_mul, one_mul_mat}
use Rattle.linear_algebra.specs.BlockFamilies.{total}
use Rattle.linear_algebra.specs.Parts.{row}
use Rattle.linear_algebra.specs.PartsLaws.{made-at, row-mul, row_zeros}
use Rattle.linear_algebra.specs.Rank.{IsInSpan}
use Rattle.linear_algebra.specs.Rows.{IsGrid, entry, rows_of}
use Rattle.linear_algebra.specs.Reduced.{IsReduced, pivot}
use Rattle.linear_algebra.specs.RowForm.{IsRowReduced}
use Rattle.linear_algebra.specs.Typed.{as_mat}
use Rattle.linear_algebra.proofs.Typed.{as_mat-entry, same_span_forth, same_span_back}
use Rattle.linear_algebra.proofs.Reduced.{entry-take, IsGrid-take}
use Rattle.linear_algebra.proofs.RowFormUnique.{row_reduced-as_mat, row_form_unique}
use Rattle.linear_algebra.proofs.BlockFamilies.{stack_all-same, stack_all-zeros, stack_all_mul}
use Rattle.linear_algebra.proofs.Solving.{in_span_trans, zeros_not_one}
use Rattle.linear_algebra.proofs.Subspaces.{span_or_beyond}
use Rattle.fp_linear.specs.Matrix.{PlainMatrix, IsMatrix}
use Rattle.fp_linear.specs.Slices.{AreElements}
use Rattle.fp_linear.specs.Meeting.{dot, IsClearFrom}
use Rattle.fp_linear.proofs.Cells.{IsGrid-rows_of, cell-entry, cell-is}
use Rattle.fp_linear.proofs.Meeting.{row_step, column_of, Meets-typed, Meets-from_typed}
use Rattle.representations.specs.Quiver.{Quiver}
use Rattle.representations.specs.Rep.{Rep}
use Rattle.representations.specs.RadicalModule.{arrow_at, arrow_into, arrow_rows, arrow_into_target, arrow_rows_have}
use Rattle.module_types.specs.Readings.{family_of}
use Rattle.module_types.specs.Shapes.{AreMatrices}
use Rattle.claim_conditions.specs.RadicalConditions.{SpanArrows}
use Rattle.module_checks.specs.Spreading.{IsSpread, in_steps}
use Rattle.module_checks.specs.Commuting.{AsksMore}
use Rattle.module_checks.specs.VertexMatrices.{HoldsEntries}
use Rattle.map_checks.specs.ArrowRows.{row_dot, RowMet, RowsMet, ArrowMet, AskArrows, HasArrowForm, SpansAt, SpanUpTo, FitVertices}
use Rattle.module_checks.proofs.SpreadDots.{dot_clear}
use Rattle.module_checks.proofs.Steps.{spread_others, spread_clear}
use Rattle.module_checks.proofs.HomRank.{IsPlainOf}
use Rattle.module_checks.proofs.VertexMatrices.{some_matrix, is_vertex, in_list, rows_are, each_more}

-- A clear row takes a row of a matrix.
module _ (q : Gf) (n m u i : ℕ) (a : PlainMatrix) (old new : List ℕ) (w : IsSpread q (u * n) n a.col_count (entry a.rows i) (in_steps 0 1) old new) (c : IsClearFrom (u * n) old) (l : u < m) where
  new_row : (x : ℕ → ℕ) → dot q n new (u * n) x ≡ row_dot q a i x
  new_row x =
      w.dots x ∙ ap (λ z. add q z (sum_to q a.col_count (λ t. mul q (entry a.rows i t) (x (in_steps 0 1 t))))) (dot_clear q n (u * n) old x (λ t h. c.clear (u * n + t) (omega arith)))
      ∙ zero_add q _ (sum_below q a.col_count _) ∙ sum-ext q a.col_count _ _ (λ t. let e : 0 + t * 1 ≡ t = omega arith in ap (λ k. mul q (entry a.rows i t) (x k)) e)

  old_row : (x : ℕ → ℕ) → dot q n old (u * n) x ≡ 0
  old_row x = dot_clear q n (u * n) old x (λ t h. c.clear (u * n + t) (omega arith))

  pub row_written : AsksMore q n m old new (RowMet q a i)
  row_written = record {
    before = λ x h. record { rows = λ k r. elim (cases_eq k u) [ inl e ↦ ap (λ z. dot q n old (z * n) x) e ∙ old_row x | inr d ↦ sym (spread_others q n u _ _ _ old new w x k d) ∙ h.rows k r ] };
    more = λ x h. record { met = sym (new_row x) ∙ h.rows u l };
    enough = λ x h p. record { rows = λ k r. elim (cases_eq k u) [ inl e ↦ ap (λ z. dot q n new (z * n) x) e ∙ new_row x ∙ p.met | inr d ↦ spread_others q n u _ _ _ old new w x k d ∙ h.rows k r ] };
  }

  pub row_clear : IsClearFrom ((u + 1) * n) new
  row_clear = spread_clear q n u _ _ _ old new w (record { clear = λ k h. c.clear k (let e = row_step n u (u + 1) (omega arith) in omega arith) })

pub RowsMet-none : (q : Gf) (n m : ℕ) (a : PlainMatrix) (old : List ℕ) → AsksMore q n m old old (RowsMet q a 0)
RowsMet-none q n m a old = record { before = λ x h. h; more = λ x h. record { each = λ i l. absurd (omega arith) }; enough = λ x h p. h }

pub RowsMet-more : (q : Gf) (n m k : ℕ) (a : PlainMatrix) (first old mid new : List ℕ) → AsksMore q n m first old (RowsMet q a k) → AsksMore q n m old mid (λ x. ⊤) → AsksMore q n m mid new (RowMet q a k)
    → AsksMore q n m first new (RowsMet q a (k + 1))
RowsMet-more q n m k a first old mid new c r d = record {
  before = λ x h. c.before x (r.before x (d.before x h));
  more = λ x h. record {
    each = λ i l. elim (cases_eq i k) [
      | inl same ↦ ap (λ i. row_dot q a i x) same ∙ (d.more x h).met
      | inr other ↦ (c.more x (r.before x (d.before x h))).each i (omega arith)
    ];
  };
  enough = λ x h p. d.enough x (r.enough x (c.enough x h (record { each = λ i l. p.each i (omega arith) })) tt) (record { met = p.each k (omega arith) });
}

-- Rows with a separate one are not in the span; so columns decide spans.
pub span_by_columns : {q : Gf} {m k n : ℕ} (f : Mat q m n) (y : Mat q k n) → ((c : Column q n) → f · c ≡ zeros q m 1 → y · c ≡ zeros q k 1) → IsInSpan f y
span_by_columns {q} {m} {k} {n} f y h = elim (span_or_beyond f y) [
  | inl s ↦ s
  | inr s ↦ absurd (zeros_not_one q (sym (sym (row-mul s.0 y s.2.functional) ∙ ap (row s.0) (h s.2.functional s.2.kills) ∙ row_zeros q k 1 s.0) ∙ s.2.sees))
]

pub columns_of_span : {q : Gf} {m k n : ℕ} (f : Mat q m n) (y : Mat q k n) → IsInSpan f y → (c : Column q n) → f · c ≡ zeros q m 1 → y · c ≡ zeros q k 1
columns_of_span f y s c e = ap (λ z. z · c) (sym s.is) ∙ mul_assoc_mat s.by f c ∙ ap (λ z. s.by · z) e ∙ mul_zeros s.by

module _ {q : Gf} {Q : Quiver} (X : Rep q Q) where
  arrow_into_other : (w a : ℕ) → Q.target a ≢ w → arrow_into X w a ≡ zeros q (X.dim (Q.source a)) (X.dim w)
  unfolding arrow_into
  arrow_into_other w a d = here (cases_eq (Q.target a) w)
    where
      here : (c : (Q.target a ≡ w) ⊎ (Q.target a ≢ w)) → arrow_at X w a c ≡ zeros q (X.dim (Q.source a)) (X.dim w)
      here (inl e) = absurd (d e)
      here (inr d) = refl

  -- A column takes an arrow's rows to zero.
  met_typed : (a : ℕ) (y : Column q (X.dim (Q.target a))) → ArrowMet X (Q.target a) a (λ t. y.at t 0) → X.mat a · y ≡ zeros q (X.dim (Q.source a)) 1
  unfolding ◌·◌ zeros
  met_typed a y h = Mat-eq_below _ _ (λ i j l k. let e : j ≡ 0 = omega arith in ap ((X.mat a · y).at i) e ∙ h.met refl i l)

  typed_met : (a : ℕ) (y : Column q (X.dim (Q.target a))) → X.mat a · y ≡ zeros q (X.dim (Q.source a)) 1 → ArrowMet X (Q.target a) a (λ t. y.at t 0)
  unfolding ◌·◌ zeros
  typed_met a y e = record { met = λ d i l. ap (λ (z : Mat q (X.dim (Q.source a)) 1). z.at i 0) e }

  into_killed : (w a : ℕ) (y : Column q (X.dim w)) → ArrowMet X w a (λ t. y.at t 0) → arrow_into X w a · y ≡ zeros q (X.dim (Q.source a)) 1
  into_killed w a y h = elim (cases_eq (Q.target a) w) [
    | inl e ↦ subst (λ w. (y : Column q (X.dim w)) → ArrowMet X w a (λ t. y.at t 0) → arrow_into X w a · y ≡ zeros q (X.dim (Q.source a)) 1) e
        (λ y h. ap (λ z. z · y) (arrow_into_target X a) ∙ met_typed a y h) y h
    | inr d ↦ ap (λ z. z · y) (arrow_into_other w a d) ∙ zeros_mul y
  ]

  pub arrows_killed : (w : ℕ) (y : Column q (X.dim w)) → ((a : ℕ) → a < Q.arrows → ArrowMet X w a (λ t. y.at t 0)) → arrow_rows X w · y ≡ zeros q (total Q.arrows (λ a. X.dim (Q.source a))) 1
  unfolding arrow_rows
  arrows_killed w y h =
      stack_all_mul Q.arrows (λ a. X.dim (Q.source a)) (arrow_into X w) y
      ∙ stack_all-same (λ a. X.dim (Q.source a)) Q.arrows (λ a. arrow_into X w a · y) (λ a. zeros q (X.dim (Q.source a)) 1) (λ a l. into_killed w a y (h a l))
      ∙ stack_all-zeros (λ a. X.dim (Q.source a)) Q.arrows

  pub killed_arrows : (w : ℕ) (y : Column q (X.dim w)) → arrow_rows X w · y ≡ zeros q (total Q.arrows (λ a. X.dim (Q.source a))) 1 → (a : ℕ) → ArrowMet X w a (λ t. y.at t 0)
  killed_arrows w y h a = elim (cases_eq (Q.target a) w) [
    | inl e ↦ subst (λ w. (y : Column q (X.dim w)) → arrow_rows X w · y ≡ zeros q (total Q.arrows (λ a. X.dim (Q.source a))) 1 → ArrowMet X w a (λ t. y.at t 0)) e
        (λ y h. typed_met a y (sym (ap (λ z. z · y) (one_mul_mat (X.mat a))) ∙ columns_of_span (arrow_rows X (Q.target a)) (one q (X.dim (Q.source a)) · X.mat a) (arrow_rows_have X a (one q (X.dim (Q.source a)))) y h)) y h
    | inr d ↦ record { met = λ e i l. absurd (d e) }
  ]

  module _ (w : ℕ) where
    pub AskArrows-none : (n m : ℕ) (new : List ℕ) → IsClearFrom 0 new → AskArrows X w n m 0 new
    AskArrows-none n m new c = record {
      forth = λ x h a l. absurd (omega arith);
      back = λ x h. record { rows = λ i l. dot_clear q n (i * n) new x (λ t k. c.clear (i * n + t) (omega arith)) };
    }

    pub AskArrows-more : (n m k : ℕ) (old new : List ℕ) → AskArrows X w n m k old → AsksMore q n m old new (ArrowMet X w k) → AskArrows X w n m (k + 1) new
    AskArrows-more n m k old new asked more = record {
      forth = λ x h a l. elim (cases_eq a k) [ inl same ↦ subst (λ a. ArrowMet X w a x) (sym same) (more.more x h) | inr other ↦ asked.forth x (more.before x h) a (omega arith) ];
      back = λ x h. more.enough x (asked.back x (λ a l. h a (omega arith))) (h k (omega arith));
    }

    -- the printed matrix of the arrow
    pub arrow_taken : (n m a : ℕ) (p : PlainMatrix) (old new : List ℕ) → IsPlainOf p (X.mat a) → Q.target a ≡ w → AsksMore q n m old new (RowsMet q p p.row_count) → AsksMore q n m old new (ArrowMet X w a)
    arrow_taken n m a p old new f d g = record {
      before = g.before;
      more = λ x h. record { met = λ e i l. sym (same_dot x i) ∙ (g.more x h).each i (subst (λ k. i < k) (sym f.row_count) l) };
      enough = λ x h q. g.enough x h (record { each = λ i l. same_dot x i ∙ q.met d i (subst (λ k. i < k) f.row_count l) });
    }
      where
        same_dot : (x : ℕ → ℕ) (i : ℕ) → row_dot q p i x ≡ sum_to q (X.dim w) (λ j. mul q ((X.mat a).at i j) (x j))
        same_dot x i = ap (λ n. sum_to q n (λ j. mul q (entry p.rows i j) (x j))) (f.col_count ∙ ap X.dim d) ∙ sum-ext q (X.dim w) _ _ (λ j. ap (λ z. mul q z (x j)) (f.entries i j))

    pub arrow_not_taken : (n m a : ℕ) (old : List ℕ) → Q.target a ≢ w → AsksMore q n m old old (ArrowMet X w a)
    arrow_not_taken n m a old d = record { before = λ x h. h; more = λ x h. record { met = λ e i l. absurd (d e) }; enough = λ x h p. h }

    column_again : (y : Column q (X.dim w)) → column_of q (X.dim w) (λ t. y.at t 0) ≡ y
    unfolding column_of
    column_again y = Mat-eq_below _ _ (λ i j l k. let e : j ≡ 0 = omega arith in
        made-at q (X.dim w) 1 (λ t j. y.at t 0) i j l k ∙ mod-eq_of_lt (y.fits.small i 0) ∙ ap (y.at i) (sym e))

    -- The reduced rows span what comes along arrows.
    module _ (m r : ℕ) (new : List ℕ) (few : AreElements q new) (F : HasArrowForm X w (X.dim w) m new r) where
      abbrev n : ℕ
      n = X.dim w

      abbrev old_rows : Mat q m (X.dim w)
      old_rows = as_mat q m (X.dim w) (rows_of m (X.dim w) F.old)

      abbrev form_rows : List (List ℕ)
      form_rows = take r (rows_of m (X.dim w) new)

      abbrev reduced_rows : Mat q r (X.dim w)
      reduced_rows = as_mat q r (X.dim w) (take r (rows_of m (X.dim w) new))

      old_grid : IsGrid q m (X.dim w) (rows_of m (X.dim w) F.old)
      old_grid = IsGrid-rows_of q m (X.dim w) F.old F.elements

      new_grid : IsGrid q m (X.dim w) (rows_of m (X.dim w) new)
      new_grid = IsGrid-rows_of q m (X.dim w) new few

      pub rank_below : r ≤ m
      rank_below = let e = new_grid.count in let f = F.form.fits in omega (arith, e, f)

      form_grid : IsGrid q r (X.dim w) (take r (rows_of m (X.dim w) new))
      form_grid = IsGrid-take q m (X.dim w) r (rows_of m (X.dim w) new) new_grid rank_below

      old_has : IsInSpan old_rows (arrow_rows X w)
      old_has = span_by_columns old_rows (arrow_rows X w) (λ y e. arrows_killed w y (F.asked.forth (λ t. y.at t 0)
          (Meets-from_typed q m (X.dim w) F.old F.elements (λ t. y.at t 0) (ap (λ y. old_rows · y) (column_again y) ∙ e))))

      has_old : IsInSpan (arrow_rows X w) old_rows
      has_old = span_by_columns (arrow_rows X w) old_rows (λ y e. ap (λ y. old_rows · y) (sym (column_again y))
          ∙ Meets-typed q m (X.dim w) F.old F.elements (λ t. y.at t 0) (F.asked.back (λ t. y.at t 0) (λ a l. killed_arrows w y e a)))

      form_has : IsInSpan reduced_rows (arrow_rows X w)
      form_has = in_span_trans reduced_rows old_rows (arrow_rows X w) (same_span_forth q m r (X.dim w) (rows_of m (X.dim w) F.old) form_rows old_grid form_grid F.form.span) old_has

      has_form : IsInSpan (arrow_rows X w) reduced_rows
      has_form = in_span_trans (arrow_rows X w) old_rows reduced_rows has_old (same_span_back q m r (X.dim w) (rows_of m (X.dim w) F.old) form_rows old_grid form_grid F.form.span)

      form_reduced : IsRowReduced reduced_rows (pivot form_rows)
      form_reduced = row_reduced-as_mat q r (X.dim w) form_rows form_grid F.form.reduced

      entry_of_form : (i j : ℕ) → i < r → j < X.dim w → reduced_rows.at i j ≡ get_or new (i * X.dim w + j) 0
      entry_of_form i j l k =
          as_mat-entry q r (X.dim w) form_rows form_grid i j ∙ entry-take r (rows_of m (X.dim w) new) i j l
          ∙ cell-entry m (X.dim w) new i j (let e = rank_below in omega (arith, e, l)) k ∙ cell-is (X.dim w) new i j

      -- a matrix with the same rows spans the same
      same_inside : {l k : ℕ} (f : Mat q l (X.dim w)) (a : Mat q r (X.dim w)) (b : Mat q k (X.dim w)) → r ≡ k → ((i j : ℕ) → i < r → j < X.dim w → a.at i j ≡ b.at i j) → IsInSpan f a → IsInSpan f b
      same_inside {l} f a b e h s = subst (λ k. (b : Mat q k (X.dim w)) → ((i j : ℕ) → i < r → j < X.dim w → a.at i j ≡ b.at i j) → IsInSpan f b) e (λ b h. subst (IsInSpan f) (Mat-eq_below a b h) s) b h

      same_around : {l k : ℕ} (f : Mat q l (X.dim w)) (a : Mat q r (X.dim w)) (b : Mat q k (X.dim w)) → r ≡ k → ((i j : ℕ) → i < r → j < X.dim w → a.at i j ≡ b.at i j) → IsInSpan a f → IsInSpan b f
      same_around {l} f a b e h s = subst (λ k. (b : Mat q k (X.dim w)) → ((i j : ℕ) → i < r → j < X.dim w → a.at i j ≡ b.at i j) → IsInSpan b f) e (λ b h. subst (λ z. IsInSpan z f) (Mat-eq_below a b h) s) b h

      module _ (a : PlainMatrix) (is : IsMatrix a) (field : a.field ≡ q) (columns : a.col_count ≡ X.dim w) where
        grid : IsGrid q a.row_count (X.dim w) a.rows
        grid = subst (λ q. IsGrid q a.row_count (X.dim w) a.rows) field (subst (λ n. IsGrid a.field a.row_count n a.rows) columns is.grid)

        same_entry : r ≡ a.row_count → HoldsEntries a (a.row_count * a.col_count) new → (i j : ℕ) → i < r → j < X.dim w → reduced_rows.at i j ≡ (as_mat q a.row_count (X.dim w) a.rows).at i j
        same_entry e h i j l k =
            entry_of_form i j l k
            ∙ h.at (i * X.dim w + j) (let p = mul-add-lt i (X.dim w) j a.row_count (subst (λ z. i < z) e l) k in let p' : i * X.dim w + j < a.row_count * X.dim w = omega (arith, p) in subst (λ n. i * X.dim w + j < a.row_count * n) (sym columns) p')
            ∙ ap (λ n. entry a.rows ((i * X.dim w + j) / n) ((i * X.dim w + j) % n)) columns
            ∙ ap₂ (entry a.rows) (div-mul-add i (X.dim w) j k) (mod-mul-add i (X.dim w) j k)
            ∙ sym (as_mat-entry q a.row_count (X.dim w) a.rows grid i j)

        pub spans_where : r ≡ a.row_count → HoldsEntries a (a.row_count * a.col_count) new → SpansAt X w a
        spans_where e h = record {
          inside = same_inside (arrow_rows X w) reduced_rows (as_mat q a.row_count (X.dim w) a.rows) e (same_entry e h) has_form;
          all = same_around (arrow_rows X w) reduced_rows (as_mat q a.row_count (X.dim w) a.rows) e (same_entry e h) form_has;
        }

        module _ (reduced : IsReduced a.col_count a.rows) (s : SpansAt X w a) where
          both : (r ≡ a.row_count) × ((i j : ℕ) → reduced_rows.at i j ≡ (as_mat q a.row_count (X.dim w) a.rows).at i j)
          both =
              let b = as_mat q a.row_count (X.dim w) a.rows in
              row_form_unique reduced_rows b (pivot form_rows) (pivot a.rows) form_reduced (row_reduced-as_mat q a.row_count (X.dim w) a.rows grid (subst (λ n. IsReduced n a.rows) columns reduced))
              (in_span_trans b (arrow_rows X w) reduced_rows s.all has_form) (in_span_trans reduced_rows (arrow_rows X w) b form_has s.inside)

          pub rank_where : r ≡ a.row_count
          rank_where = both.0

          pub entries_where : HoldsEntries a (a.row_count * a.col_count) new
          entries_where = record {
            at = λ e l.
                let some : 0 < a.col_count = some_column e a.row_count a.col_count l in
                let i : ℕ = e / a.col_count in
                let row : e / a.col_count < a.row_count = quotient_below e a.row_count a.col_count l in
                let place : e / a.col_count * a.col_count + e % a.col_count ≡ e = (let d = div-add-mod' e a.col_count in omega (arith, d)) in
                ap (λ k. get_or new k 0) (sym place ∙ ap (λ n. e / a.col_count * n + e % a.col_count) columns)
                ∙ sym (entry_of_form (e / a.col_count) (e % a.col_count) (subst (λ z. e / a.col_count < z) (sym both.0) row) (subst (λ n. e % a.col_count < n) columns (mod-lt e some)))
                ∙ both.1 (e / a.col_count) (e % a.col_count)
                ∙ as_mat-entry q a.row_count (X.dim w) a.rows grid (e / a.col_count) (e % a.col_count);
          }
            where
              some_column : (p m n : ℕ) → p < m * n → 0 < n
              some_column p m n h = elim (cases_lt 0 n) [ inl l ↦ l | inr z ↦ absurd (let none : n ≡ 0 = omega arith in let bad : p < m * 0 = subst (λ n. p < m * n) none h in omega arith) ]

              quotient_below : (p m n : ℕ) → p < m * n → p / n < m
              quotient_below p m n h = elim (cases_lt (p / n) m) [ inl l ↦ l | inr g ↦ absurd (let d = div-add-mod' p n in let e = mul-le-mul_right n g in omega arith) ]

-- The same over a number that is the dimension.
module _ {q : Gf} {Q : Quiver} (X : Rep q Q) (w n m r : ℕ) (new : List ℕ) (e : n ≡ X.dim w) (few : AreElements q new) (F : HasArrowForm X w n m new r) (a : PlainMatrix) (is : IsMatrix a) (field : a.field ≡ q)
    (columns : a.col_count ≡ X.dim w) where
  form : HasArrowForm X w (X.dim w) m new r
  form = subst (λ n. HasArrowForm X w n m new r) e F

  pub spans_at_yes : r ≡ a.row_count → HoldsEntries a (a.row_count * a.col_count) new → SpansAt X w a
  spans_at_yes = spans_where X w m r new few form a is field columns

  pub rank_at : IsReduced a.col_count a.rows → SpansAt X w a → r ≡ a.row_count
  rank_at = rank_where X w m r new few form a is field columns

  pub entries_at : IsReduced a.col_count a.rows → SpansAt X w a → HoldsEntries a (a.row_count * a.col_count) new
  entries_at = entries_where X w m r new few form a is field columns

pub form_fits : {q : Gf} {Q : Quiver} (X : Rep q Q) (w n m r : ℕ) (new : List ℕ) → AreElements q new → HasArrowForm X w n m new r → r ≤ m
form_fits {q} X w n m r new few F = let e = (IsGrid-rows_of q m n new few).count in let f = F.form.fits in omega (arith, e, f)

pub held_more : (a : PlainMatrix) (e : ℕ) (s : List ℕ) → HoldsEntries a e s → get_or s e 0 ≡ entry a.rows (e / a.col_count) (e % a.col_count) → HoldsEntries a (e + 1) s
held_more a e s h d = record {
  at = λ k b. elim (cases_eq k e) [
    | inl same ↦ ap (λ k. get_or s k 0) same ∙ d ∙ ap (λ k. entry a.rows (k / a.col_count) (k % a.col_count)) (sym same)
    | inr other ↦ h.at k (omega arith)
  ];
}

-- At all vertices.
module _ {q : Gf} {Q : Quiver} (N X : Rep q Q) (matrices : List PlainMatrix) (M : AreMatrices q Q.vertices N.dim X.dim matrices) where
  same_at : (w : ℕ) (p : PlainMatrix) → w < Q.vertices → (P : (k : ℕ) → Mat q k (X.dim w) → Type 0) → P (slice_index_or matrices w p).row_count (as_mat q (slice_index_or matrices w p).row_count (X.dim w) (slice_index_or matrices w p).rows) → P (N.dim w) (family_of N X matrices w)
  same_at w p l P h =
      subst (λ (r : List (List ℕ)). P (N.dim w) (as_mat q (N.dim w) (X.dim w) r)) (sym (rows_are N X matrices M w p l))
      (subst (λ k. P k (as_mat q k (X.dim w) (slice_index_or matrices w p).rows)) (M.each w p l).row_count h)

  from_family : (w : ℕ) (p : PlainMatrix) → w < Q.vertices → (P : (k : ℕ) → Mat q k (X.dim w) → Type 0) → P (N.dim w) (family_of N X matrices w) → P (slice_index_or matrices w p).row_count (as_mat q (slice_index_or matrices w p).row_count (X.dim w) (slice_index_or matrices w p).rows)
  from_family w p l P h =
      subst (λ k. P k (as_mat q k (X.dim w) (slice_index_or matrices w p).rows)) (sym (M.each w p l).row_count)
      (subst (λ (r : List (List ℕ)). P (N.dim w) (as_mat q (N.dim w) (X.dim w) r)) (rows_are N X matrices M w p l) h)

  no_columns_span : {m k n : ℕ} (f : Mat q m n) (y : Mat q k n) → n ≡ 0 → IsInSpan f y
  no_columns_span {m} {k} f y e = record { by = zeros q k m; is = Mat-eq_below _ _ (λ i j a b. absurd (omega arith)) }

  pub spans_family : SpanUpTo X (length matrices) matrices → SpanArrows N X (family_of N X matrices)
  spans_family h = record {
    inside = λ w. elim (cases_lt w Q.vertices) [
      | inl l ↦ same_at w (some_matrix q) l (λ k y. IsInSpan (arrow_rows X w) y) (h.each w (some_matrix q) (in_list N X matrices M w l)).inside
      | inr l ↦ no_columns_span (arrow_rows X w) (family_of N X matrices w) (X.past w l)
    ];
    all = λ w. elim (cases_lt w Q.vertices) [
      | inl l ↦ same_at w (some_matrix q) l (λ k y. IsInSpan y (arrow_rows X w)) (h.each w (some_matrix q) (in_list N X matrices M w l)).all
      | inr l ↦ no_columns_span (family_of N X matrices w) (arrow_rows X w) (X.past w l)
    ];
  }

  pub family_spans : SpanArrows N X (family_of N X matrices) → SpanUpTo X (length matrices) matrices
  family_spans s = record {
    each = λ v a k.
        let l = is_vertex N X matrices M v k in
        record { inside = from_family v a l (λ k y. IsInSpan (arrow_rows X v) y) (s.inside v); all = from_family v a l (λ k y. IsInSpan y (arrow_rows X v)) (s.all v) };
  }

  pub fit_vertices : ((v : ℕ) → N.dim v ≤ 256) → ((v : ℕ) → X.dim v ≤ 256) → FitVertices X matrices
  fit_vertices x y = record {
    each = λ v a k.
        let s = M.each v a (is_vertex N X matrices M v k) in
        record { field = s.field; columns = s.col_count; few_columns = (let d = y v in omega (arith, d, s.col_count)); few_rows = (let d = x v in omega (arith, d, s.row_count)) };
  }

pub spans_more : {q : Gf} {Q : Quiver} (X : Rep q Q) (xs : List PlainMatrix) (k : ℕ) (a : PlainMatrix) → k < length xs → a ≡ slice_index_or xs k a → SpanUpTo X k xs → SpansAt X k a → SpanUpTo X (k + 1) xs
spans_more X xs k a l e h b = record { each = each_more (SpansAt X) xs k a l e h.each b }

pub spans_there : {q : Gf} {Q : Quiver} (X : Rep q Q) (xs : List PlainMatrix) (n k : ℕ) (a : PlainMatrix) → k < n → a ≡ slice_index_or xs k a → SpanUpTo X n xs → SpansAt X k a
spans_there X xs n k a l e h = subst (SpansAt X k) (sym e) (h.each k a l)

-- room for twice as many rows as they are long, and one more
pub rows_for : (n k : ℕ) → n ≤ 256 → 131328 ≤ k → (2 * n + 1) * n ≤ k
rows_for n k h l = let a : 2 * n + 1 ≤ 513 = omega arith in let b : (2 * n + 1) * n ≤ 513 * n = mul-le-mul_right n a in omega (arith, b, h, l)

pub fewer_entries : (m n k : ℕ) → m ≤ n → m * n ≤ (2 * n + 1) * n
fewer_entries m n k h = mul-le-mul_right n (let a : m ≤ 2 * n + 1 = omega arith in a)
