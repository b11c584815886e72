-- The rank of the equations for homomorphisms, by rows that ask for all of them.
use Rattle.std.proofs.Common.{[], ℕ, ◌<◌, ◌≡◌, ◌+◌, ◌*◌, ◌/◌, ◌%◌, List, sym, ap, ap₂, ◌∙◌, inl, inr, arith, subst, mod-lt, mod-eq_of_lt, div-add-mod', mul-le-mul_right, zero, ltb, lt-ltb}
use Rattle.std.proofs.lemmas.Bool.{cases_lt, cases_eq, cond-true}
use Rattle.std.proofs.lemmas.Nat.{mul-add-lt, div-mul-add, mod-mul-add}
use Rattle.std.proofs.lemmas.List.{get_or-map}
use Rattle.std.specs.Bool.{⊤}
use Rattle.std.specs.Prelude.{slice_index, slice_index_or, length}
use Rattle.linear_algebra.proofs.Typed.{as_mat-entry}
use Rattle.module_types.specs.Readings.{rows_at, dim_at}
use Rattle.module_types.specs.Shapes.{HasShape}
use Rattle.linear_algebra.specs.Rows.{IsGrid, entry, rows_of}
use Rattle.fp_linear.specs.Matrix.{PlainMatrix}
use Rattle.linear_algebra.proofs.RankExists.{rank_factorisation}
use Rattle.linear_algebra.proofs.BlockFamilies.{total-same}
use Rattle.linear_algebra.proofs.Dimension.{rank_is}
use Rattle.fp_linear.proofs.Cells.{IsGrid-rows_of}
use Rattle.fp_linear.proofs.RankOf.{rank_of_answer}
use Rattle.representations.proofs.Equations.{no_defects_all}
use Rattle.linear_algebra.specs.Field.{Gf, add, mul, neg}
use Rattle.linear_algebra.specs.Sums.{sum_to, sum-same}
use Rattle.linear_algebra.specs.Matrix.{Mat, Row, Mat-eq_below, zeros, transpose, ◌·◌}
use Rattle.linear_algebra.specs.BlockFamilies.{total}
use Rattle.linear_algebra.specs.LinearMaps.{matrix_of}
use Rattle.linear_algebra.specs.Reduced.{ReducesTo}
use Rattle.linear_algebra.specs.Typed.{as_mat}
use Rattle.linear_algebra.proofs.MatrixLaws.{transpose_mul, transpose_transpose, transpose_zeros}
use Rattle.linear_algebra.proofs.PartsLaws.{made-at}
use Rattle.linear_algebra.proofs.LinearMaps.{mul-matrix_of}
use Rattle.linear_algebra.specs.Ranks.{rank}
use Rattle.linear_algebra.proofs.Dimension.{rank_transpose}
use Rattle.fp_linear.specs.Slices.{AreElements}
use Rattle.representations.specs.Quiver.{Quiver}
use Rattle.representations.specs.Rep.{Rep}
use Rattle.representations.specs.HomSpace.{unknowns, defect, defects}
use Rattle.representations.proofs.HomSpace.{defects_linear, no_defect}
use Rattle.module_checks.specs.Commuting.{AskUpTo, AsksMore, block_sizes, GoesAlong, defect_at}
use Rattle.fp_linear.specs.Meeting.{IsClearFrom}
use Rattle.module_checks.proofs.SpreadDots.{dot_clear}
use Rattle.representations.proofs.Equations.{defect_by_places}
use Rattle.fp_linear.proofs.Meeting.{column_of, Meets-typed, Meets-from_typed}
use Rattle.linear_algebra.proofs.Ranks.{same_kernel_same_rank}

-- the plain matrix is this one
pub record IsPlainOf {q : Gf} {m n : ℕ} (plain : PlainMatrix) (a : Mat q m n) : Type 0 where
  pub row_count : plain.row_count ≡ m
  pub col_count : plain.col_count ≡ n
  pub entries : (i j : ℕ) → entry plain.rows i j ≡ a.at i j

module _ {q : Gf} {Q : Quiver} (X Y : Rep q Q) where
  unfoldable pub begins : ℕ → ℕ
  begins v = total v (λ w. X.dim w * Y.dim w)

  module _ (a : ℕ) (xm ym : PlainMatrix) (f : IsPlainOf xm (X.mat a)) (g : IsPlainOf ym (Y.mat a)) (x : Row q (unknowns X Y)) where
    defect_place : (i j : ℕ) → i < X.dim (Q.source a) → j < Y.dim (Q.target a)
        → defect_at q xm ym (begins (Q.target a)) (begins (Q.source a)) i j (x.at 0) ≡ (defect X Y x a).at i j
    unfolding begins
    defect_place i j h k =
        ap₂ (λ c d. add q
        (sum_to q c (λ k. mul q (entry xm.rows i k) (x.at 0 (total (Q.target a) (λ w. X.dim w * Y.dim w) + j + k * ym.col_count))))
        (sum_to q d (λ l. mul q (neg q (entry ym.rows l j)) (x.at 0 (total (Q.source a) (λ w. X.dim w * Y.dim w) + i * d + l)))))
        f.col_count g.row_count
        ∙ ap₂ (add q)
        (sum-same q (X.dim (Q.target a)) _ _ (λ t l. ap₂ (λ c d. mul q c (x.at 0 (total (Q.target a) (λ w. X.dim w * Y.dim w) + j + t * d))) (f.entries i t) g.col_count))
        (sum-same q (Y.dim (Q.source a)) _ _ (λ t l. ap (λ c. mul q (neg q c) (x.at 0 (total (Q.source a) (λ w. X.dim w * Y.dim w) + i * Y.dim (Q.source a) + t))) (g.entries t j)))
        ∙ sym (defect_by_places X Y x a i j h k)

    pub no_defect_where : GoesAlong q xm ym (begins (Q.target a)) (begins (Q.source a)) (xm.row_count * ym.col_count) (x.at 0)
        → defect X Y x a ≡ zeros q (X.dim (Q.source a)) (Y.dim (Q.target a))
    unfolding zeros
    no_defect_where h = Mat-eq_below _ _ (λ i j l k.
        sym (defect_place i j l k)
        ∙ ap₂ (λ c d. defect_at q xm ym (begins (Q.target a)) (begins (Q.source a)) c d (x.at 0))
        (sym (ap (λ n. (i * n + j) / n) g.col_count ∙ div-mul-add i (Y.dim (Q.target a)) j k)) (sym (ap (λ n. (i * n + j) % n) g.col_count ∙ mod-mul-add i (Y.dim (Q.target a)) j k))
        ∙ h.at (i * ym.col_count + j) (let b = mul-add-lt i ym.col_count j xm.row_count (subst (λ n. i < n) (sym f.row_count) l) (subst (λ n. j < n) (sym g.col_count) k) in omega arith))

    pub goes_where : defect X Y x a ≡ zeros q (X.dim (Q.source a)) (Y.dim (Q.target a))
        → GoesAlong q xm ym (begins (Q.target a)) (begins (Q.source a)) (xm.row_count * ym.col_count) (x.at 0)
    unfolding zeros
    goes_where e = record {
      at = λ k h.
          defect_place (k / ym.col_count) (k % ym.col_count)
          (subst (λ n. k / ym.col_count < n) f.row_count (quotient_below k xm.row_count ym.col_count h))
          (subst (λ n. k % ym.col_count < n) g.col_count (mod-lt k (some_column k xm.row_count ym.col_count h)))
          ∙ ap (λ (z : Mat q (X.dim (Q.source a)) (Y.dim (Q.target a))). z.at (k / ym.col_count) (k % ym.col_count)) e;
    }
      where
        some_column : (k m n : ℕ) → k < m * n → 0 < n
        some_column k m n h = elim (cases_lt 0 n) [ inl p ↦ p | inr z ↦ absurd (let none : n ≡ 0 = omega arith in let bad : k < m * 0 = subst (λ n. k < m * n) none h in omega arith) ]

        quotient_below : (k m n : ℕ) → k < m * n → k / n < m
        quotient_below k m n h = elim (cases_lt (k / n) m) [ inl l ↦ l | inr g ↦ absurd (let d = div-add-mod' k n in let e = mul-le-mul_right n g in omega arith) ]

  column_of-row : (x : Row q (unknowns X Y)) → column_of q (unknowns X Y) (x.at 0) ≡ transpose x
  unfolding column_of transpose
  column_of-row x = Mat-eq_below _ _ (λ i j l k. let e : j ≡ 0 = omega arith in
      made-at q (unknowns X Y) 1 (λ t j. x.at 0 t) i j l k ∙ mod-eq_of_lt (x.fits.small 0 i) ∙ ap (λ z. x.at z i) (sym e))

  flip : {m n : ℕ} (s : Mat q m n) (x : Row q n) → s · transpose x ≡ zeros q m 1 → x · transpose s ≡ zeros q 1 m
  flip {m} {n} s x e = ap (λ z. z · transpose s) (sym (transpose_transpose x)) ∙ sym (transpose_mul s (transpose x)) ∙ ap transpose e ∙ transpose_zeros q m 1

  flip_back : {m n : ℕ} (s : Mat q m n) (x : Row q n) → x · transpose s ≡ zeros q 1 m → s · transpose x ≡ zeros q m 1
  flip_back {m} {n} s x e = ap (λ z. z · transpose x) (sym (transpose_transpose s)) ∙ sym (transpose_mul x (transpose s)) ∙ ap transpose e ∙ transpose_zeros q 1 m

  -- The rank of rows is the number of rows that elimination leaves.
  reduced_rank : (m : ℕ) (old new pivots : List ℕ) (r : ℕ) → AreElements q old → AreElements q new → ReducesTo q (unknowns X Y) (rows_of m (unknowns X Y) old) (rows_of m (unknowns X Y) new) pivots r
      → rank (as_mat q m (unknowns X Y) (rows_of m (unknowns X Y) old)) ≡ r
  reduced_rank m old new pivots r a b d =
      let n = unknowns X Y in
      let F = rank_factorisation (as_mat q m n (rows_of m n old)) in
      rank_is F ∙ rank_of_answer q m n (rows_of m n old) (rows_of m n new) pivots r (IsGrid-rows_of q m n old a) (IsGrid-rows_of q m n new b) d F

  pub equations_rank : (m : ℕ) (old new pivots : List ℕ) (r : ℕ) → AreElements q old → AreElements q new
      → ReducesTo q (unknowns X Y) (rows_of m (unknowns X Y) old) (rows_of m (unknowns X Y) new) pivots r → AskUpTo X Y (unknowns X Y) m Q.arrows old → r ≡ rank (matrix_of (defects X Y))
  unfolding defects
  equations_rank m old new pivots r a b d all =
      let S = as_mat q m (unknowns X Y) (rows_of m (unknowns X Y) old) in
      let C = matrix_of (defects X Y) in
      sym (reduced_rank m old new pivots r a b d) ∙ sym (rank_transpose S)
      ∙ same_kernel_same_rank (transpose S) C
      (λ x e. mul-matrix_of (defects X Y) (defects_linear X Y) x ∙ no_defects_all X Y x (all.forth x (Meets-from_typed q m (unknowns X Y) old a (x.at 0) (ap (λ z. S · z) (column_of-row x) ∙ flip_back S x e))))
      (λ x e. flip S x (ap (λ z. S · z) (sym (column_of-row x)) ∙ Meets-typed q m (unknowns X Y) old a (x.at 0)
      (all.back x (λ a h. no_defect X Y x (sym (mul-matrix_of (defects X Y) (defects_linear X Y) x) ∙ e) a))))

  pub equations_rank_at : (n m a : ℕ) (old new pivots : List ℕ) (r : ℕ) → n ≡ unknowns X Y → a ≡ Q.arrows → AreElements q old → AreElements q new
      → ReducesTo q n (rows_of m n old) (rows_of m n new) pivots r → AskUpTo X Y n m a old → r ≡ rank (matrix_of (defects X Y))
  equations_rank_at n m a old new pivots r e f x y d asked = equations_rank m old new pivots r x y (rw e at d) (rw (e, f) at asked)

  -- One arrow more.
  pub AskUpTo-more : (n m a : ℕ) (xm ym : PlainMatrix) (t s : ℕ) (old new : List ℕ) → IsPlainOf xm (X.mat a) → IsPlainOf ym (Y.mat a) → t ≡ begins (Q.target a) → s ≡ begins (Q.source a)
      → AskUpTo X Y n m a old → AsksMore q n m old new (GoesAlong q xm ym t s (xm.row_count * ym.col_count)) → AskUpTo X Y n m (a + 1) new
  AskUpTo-more n m a xm ym t s old new f g e d asked more = record {
    forth = λ x h b l. elim (cases_eq b a) [
      | inl same ↦ subst (λ a. defect X Y x a ≡ zeros q (X.dim (Q.source a)) (Y.dim (Q.target a))) (sym same) (no_defect_where a xm ym f g x (rw (← e, ← d) (more.more (x.at 0) h)))
      | inr other ↦ asked.forth x (more.before (x.at 0) h) b (omega arith)
    ];
    back = λ x h. more.enough (x.at 0) (asked.back x (λ b l. h b (omega arith))) (rw (e, d) (goes_where a xm ym f g x (h a (omega arith))));
  }

  pub AskUpTo-kept : (n m a : ℕ) (old new : List ℕ) → AskUpTo X Y n m a old → AsksMore q n m old new (λ x. ⊤) → AskUpTo X Y n m a new
  AskUpTo-kept n m a old new asked same = record { forth = λ x h b l. asked.forth x (same.before (x.at 0) h) b l; back = λ x h. same.enough (x.at 0) (asked.back x h) tt }

  pub AskUpTo-none : (n m : ℕ) (s : List ℕ) → IsClearFrom 0 s → AskUpTo X Y n m 0 s
  AskUpTo-none n m s c = record {
    forth = λ x h b l. absurd (omega arith);
    back = λ x h. record { rows = λ i l. dot_clear q n (i * n) s (x.at 0) (λ t k. c.clear (i * n + t) (omega arith)) };
  }

-- Plain matrices of a shape are what they are read as.
pub plain_of_shape : (q : Gf) (m n i : ℕ) (matrices : List PlainMatrix) (d : PlainMatrix) → i < length matrices → HasShape q m n (slice_index_or matrices i d)
    → IsPlainOf (slice_index_or matrices i d) (as_mat q m n (rows_at matrices i))
plain_of_shape q m n i matrices d h s =
    let a = slice_index_or matrices i d in
    let same : rows_at matrices i ≡ a.rows = get_or-map (λ (m : PlainMatrix). m.rows) matrices i d [] h in
    let grid : IsGrid q m n a.rows = subst (λ q. IsGrid q m n a.rows) s.field (subst (λ m. IsGrid a.field m n a.rows) s.row_count (subst (λ n. IsGrid a.field a.row_count n a.rows) s.col_count s.matrix.grid)) in
    record {
      row_count = s.row_count;
      col_count = s.col_count;
      entries = λ i j. sym (ap (λ (r : List (List ℕ)). (as_mat q m n r).at i j) same ∙ as_mat-entry q m n a.rows grid i j);
    }

pub dim_at-is : (Q : Quiver) (dims : List ℕ) (v : ℕ) → v < Q.vertices → dim_at Q dims v ≡ slice_index dims v
unfolding dim_at
dim_at-is Q dims v h = cond-true (ltb v Q.vertices) (slice_index dims v) zero (lt-ltb v Q.vertices h)

-- Up to a vertex the unknowns are counted by the dimensions.
pub blocks_before : (Q : Quiver) (x y : List ℕ) (v : ℕ) → v < Q.vertices → total v (block_sizes x y) ≡ total v (λ w. dim_at Q x w * dim_at Q y w)
blocks_before Q x y v h = total-same v _ _ (λ w l. ap₂ (λ a b. a * b) (sym (dim_at-is Q x w (omega arith))) (sym (dim_at-is Q y w (omega arith))))
