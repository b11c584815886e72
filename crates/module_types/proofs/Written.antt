-- Reading undoes writing, and writing undoes reading.
use Rattle.std.proofs.Common.{ℕ, zero, suc, refl, ◌+◌, ◌≡◌, ◌<◌, ◌≤◌, ◌*◌, inl, inr, List, [], length, get_or, slice_index, sym, ap, ap₂, ◌∙◌, subst, arith, ltb, lt-ltb}
use Rattle.std.proofs.Math.Nat.{mul-le-mul}
use Rattle.std.proofs.lemmas.Bool.{cases_lt, cond-true}
use Rattle.std.proofs.lemmas.List.{get_or-map}
use Rattle.linear_algebra.specs.Field.{Gf}
use Rattle.linear_algebra.specs.Matrix.{Mat}
use Rattle.linear_algebra.specs.BlockFamilies.{total}
use Rattle.linear_algebra.specs.Rows.{list_of, IsGrid}
use Rattle.linear_algebra.specs.Typed.{as_mat, grid_of}
use Rattle.linear_algebra.proofs.Rows.{length-list_of, get_or-list_of, list_of-is}
use Rattle.linear_algebra.proofs.Typed.{as_mat-grid_of, IsGrid-grid_of, grid_of-as_mat}
use Rattle.linear_algebra.proofs.BlockFamilies.{total_grows}
use Rattle.fp_linear.specs.Matrix.{PlainMatrix, plain, most_entries}
use Rattle.representations.specs.Quiver.{Quiver}
use Rattle.representations.specs.Rep.{Rep}
use Rattle.representations.proofs.RepEqual.{Rep-eq}
use Rattle.module_types.specs.declared.Side.{Side}
use Rattle.module_types.specs.declared.Module.{Module}
use Rattle.module_types.specs.Readings.{dim_at, dim_past, rows_at, rep_of}
use Rattle.module_types.specs.Shapes.{HasShape, HasModuleShape, IsModule, module_shape, dimension}
use Rattle.module_types.specs.Written.{written}

-- the dimension at a vertex that there is
pub dim_at-below : (Q : Quiver) (dims : List ℕ) (v : ℕ) → v < Q.vertices → dim_at Q dims v ≡ slice_index dims v
unfolding dim_at
dim_at-below Q dims v l = cond-true (ltb v Q.vertices) (slice_index dims v) zero (lt-ltb v Q.vertices l)

pub total-same : (k : ℕ) (f g : ℕ → ℕ) → ((i : ℕ) → i < k → f i ≡ g i) → total k f ≡ total k g
total-same zero f g e = refl
total-same (suc k) f g e = ap₂ (λ m n. m + n) (total-same k f g (λ i l. e i (omega arith))) (e k (omega arith))

-- A matrix that is no larger than that of a module may be has few entries.
few_entries : (m n : ℕ) → m ≤ 256 → n ≤ 256 → m * n ≤ most_entries
few_entries m n h k = let e : m * n ≤ 256 * 256 = mul-le-mul h k in omega (arith, e)

-- The dimension at a vertex is at most that of the module.
pub dim_at-dimension : (Q : Quiver) (dims : List ℕ) (v : ℕ) → length dims ≡ Q.vertices → dim_at Q dims v ≤ dimension dims
dim_at-dimension Q dims v c = elim (cases_lt v Q.vertices) [
  | inl l ↦ let e = dim_at-below Q dims v l in let g = total_grows (slice_index dims) (length dims) v (omega arith) in omega (arith, e, g)
  | inr l ↦ let e = dim_past Q dims v l in omega (arith, e)
]

module _ {q : Gf} {Q : Quiver} (side : Side) (X : Rep q Q) where
  pub written-dim : (v : ℕ) → dim_at Q (written side X).dims v ≡ X.dim v
  written-dim v = elim (cases_lt v Q.vertices) [
    | inl l ↦ dim_at-below Q (list_of Q.vertices X.dim) v l ∙ get_or-list_of Q.vertices X.dim v 0 l
    | inr l ↦ dim_past Q (list_of Q.vertices X.dim) v l ∙ sym (X.past v l)
  ]

  abbrev matrix_of : ℕ → PlainMatrix
  matrix_of a = plain q (X.dim (Q.source a)) (X.dim (Q.target a)) (grid_of (X.mat a))

  written-rows : (a : ℕ) → a < Q.arrows → rows_at (written side X).matrices a ≡ grid_of (X.mat a)
  written-rows a l =
      get_or-map (λ (m : PlainMatrix). m.rows) (list_of Q.arrows matrix_of) a (matrix_of a) [] (subst (λ n. a < n) (sym (length-list_of Q.arrows matrix_of)) l)
      ∙ ap (λ (m : PlainMatrix). m.rows) (get_or-list_of Q.arrows matrix_of a (matrix_of a) l)

  read_at_sizes : (m n k l : ℕ) (rows : List (List ℕ)) (i j : ℕ) → m ≡ k → n ≡ l → (as_mat q m n rows).at i j ≡ (as_mat q k l rows).at i j
  read_at_sizes m n k l rows i j e d = ap₂ (λ m n. (as_mat q m n rows).at i j) e d

  written-at : (a i j : ℕ) → ((rep_of q Q (written side X)).mat a).at i j ≡ (X.mat a).at i j
  written-at a i j = elim (cases_lt a Q.arrows) [
    | inl l ↦
        read_at_sizes _ _ (X.dim (Q.source a)) (X.dim (Q.target a)) (rows_at (written side X).matrices a) i j (written-dim (Q.source a)) (written-dim (Q.target a))
        ∙ ap (λ rows. (as_mat q (X.dim (Q.source a)) (X.dim (Q.target a)) rows).at i j) (written-rows a l)
        ∙ ap (λ (m : Mat q (X.dim (Q.source a)) (X.dim (Q.target a))). m.at i j) (as_mat-grid_of (X.mat a))
    | inr l ↦
        let none : dim_at Q (written side X).dims (Q.source a) ≡ zero = dim_past Q (written side X).dims (Q.source a) (Q.source_past a l) in
        let no_rows : X.dim (Q.source a) ≡ zero = X.past (Q.source a) (Q.source_past a l) in
        ((rep_of q Q (written side X)).mat a).fits.below i j (omega (arith, none)) ∙ sym ((X.mat a).fits.below i j (omega (arith, no_rows)))
  ]

  pub rep_of-written : rep_of q Q (written side X) ≡ X
  rep_of-written = Rep-eq (rep_of q Q (written side X)) X written-dim written-at

  pub written-dimension : dimension (written side X).dims ≡ total Q.vertices X.dim
  written-dimension =
      ap (λ n. total n (slice_index (list_of Q.vertices X.dim))) (length-list_of Q.vertices X.dim)
      ∙ total-same Q.vertices (slice_index (list_of Q.vertices X.dim)) X.dim (λ i l. get_or-list_of Q.vertices X.dim i 0 l)

  small_dim : total Q.vertices X.dim ≤ 256 → (v : ℕ) → X.dim v ≤ 256
  small_dim h v = elim (cases_lt v Q.vertices) [
    | inl l ↦ let g = total_grows X.dim Q.vertices v l in omega (arith, g)
    | inr l ↦ let p = X.past v l in omega (arith, p)
  ]

  -- The writing of a representation has the shape of a module, where its matrices have few enough entries; so it is up to the largest dimension.
  pub written-module_shape : ((a : ℕ) → a < Q.arrows → X.dim (Q.source a) * X.dim (Q.target a) ≤ most_entries) → HasModuleShape q Q (written side X)
  written-module_shape few = record {
    counted = length-list_of Q.vertices X.dim;
    matrices = record {
      counted = length-list_of Q.arrows matrix_of;
      each = λ a d l. subst (HasShape q (dim_at Q (written side X).dims (Q.source a)) (dim_at Q (written side X).dims (Q.target a))) (sym (get_or-list_of Q.arrows matrix_of a d l)) (record {
        matrix = record { grid = IsGrid-grid_of (X.mat a); fits = few a l };
        field = refl;
        row_count = sym (written-dim (Q.source a));
        col_count = sym (written-dim (Q.target a));
      });
    };
  }

  pub written-shape : total Q.vertices X.dim ≤ 256 → IsModule q Q (written side X)
  written-shape h =
      let s = written-module_shape (λ a l. few_entries (X.dim (Q.source a)) (X.dim (Q.target a)) (small_dim h (Q.source a)) (small_dim h (Q.target a))) in
      record { counted = s.counted; small = subst (λ n. n ≤ 256) (sym written-dimension) h; matrices = s.matrices }

same_matrix : (q : Gf) (m n : ℕ) (a : PlainMatrix) (rows : List (List ℕ)) → HasShape q m n a → rows ≡ a.rows → a ≡ plain q m n (grid_of (as_mat q m n rows))
same_matrix q m n a rows s e = λ k. record {
  field = s.field k;
  row_count = s.row_count k;
  col_count = s.col_count k;
  rows = (sym (grid_of-as_mat q m n a.rows grid) ∙ ap (λ r. grid_of (as_mat q m n r)) (sym e)) k;
}
  where
    grid : IsGrid q m n a.rows
    grid = subst (λ q. IsGrid q m n a.rows) s.field (subst (λ m. IsGrid a.field m n a.rows) s.row_count (subst (λ n. IsGrid a.field a.row_count n a.rows) s.col_count s.matrix.grid))

-- A module that has the shape, of whatever dimension, is what its reading is written as.
pub written-rep_of_shape : (q : Gf) (Q : Quiver) (m : Module) → HasModuleShape q Q m → written m.side (rep_of q Q m) ≡ m
written-rep_of_shape q Q m s = λ k. record { side = m.side; dims = sym dims k; matrices = sym matrices k }
  where
    dims : m.dims ≡ list_of Q.vertices (dim_at Q m.dims)
    dims = list_of-is Q.vertices (dim_at Q m.dims) m.dims 0 s.counted (λ v l. sym (dim_at-below Q m.dims v l))

    none : PlainMatrix
    none = plain q 0 0 []

    matrices : m.matrices ≡ list_of Q.arrows (λ a. plain q (dim_at Q m.dims (Q.source a)) (dim_at Q m.dims (Q.target a)) (grid_of ((rep_of q Q m).mat a)))
    matrices = list_of-is Q.arrows _ m.matrices none s.matrices.counted (λ a l.
        same_matrix q (dim_at Q m.dims (Q.source a)) (dim_at Q m.dims (Q.target a)) (get_or m.matrices a none) (rows_at m.matrices a) (s.matrices.each a none l)
        (get_or-map (λ (m : PlainMatrix). m.rows) m.matrices a none [] (subst (λ n. a < n) (sym s.matrices.counted) l)))

pub written-rep_of : (q : Gf) (Q : Quiver) (m : Module) → IsModule q Q m → written m.side (rep_of q Q m) ≡ m
written-rep_of q Q m s = written-rep_of_shape q Q m (module_shape s)

pub shape-small : (q : Gf) (Q : Quiver) (m : Module) → HasModuleShape q Q m → dimension m.dims ≤ 256 → IsModule q Q m
shape-small q Q m s h = record { counted = s.counted; small = h; matrices = s.matrices }
