-- What is decided of matrices at the vertices, and the families that they are read as.
use Rattle.std.proofs.Common.{ℕ, suc, ◌<◌, ◌≤◌, ◌≡◌, ◌+◌, ◌-◌, ◌*◌, ◌/◌, ◌%◌, List, [], get_or, set, get_or-set_same, get_or-set_other, ltb, lt-ltb, le-ltb, if◌then◌else◌, refl, sym, ap, ap₂, ◌∙◌, inl, inr, arith, subst, mul-le-mul_right}
use Rattle.std.specs.Prelude.{slice_index, slice_index_or, length}
use Rattle.std.proofs.lemmas.Bool.{cases_lt, cases_eq, cond-true, cond-false}
use Rattle.std.proofs.lemmas.Nat.{mul-add-lt, div-mul-add, mod-mul-add}
use Rattle.std.proofs.lemmas.List.{get_or-map, get_or_default, get_or_past}
use Rattle.linear_algebra.specs.Field.{Gf}
use Rattle.linear_algebra.specs.FieldLaws.{order-pos}
use Rattle.linear_algebra.specs.Matrix.{Mat, Mat-eq_below, delta-same, zeros, one, ◌·◌}
use Rattle.linear_algebra.specs.MatrixLaws.{one-at}
use Rattle.linear_algebra.specs.Rows.{IsGrid, entry, rows_of}
use Rattle.linear_algebra.specs.Reduced.{IsReduced, ReducesTo, pivot}
use Rattle.linear_algebra.specs.RowForm.{IsRowReduced, IsCoReduced}
use Rattle.linear_algebra.specs.Ranks.{rank}
use Rattle.linear_algebra.specs.Typed.{as_mat}
use Rattle.linear_algebra.proofs.Typed.{as_mat-entry, grid_of-as_mat}
use Rattle.linear_algebra.proofs.RowFormUnique.{row_reduced-as_mat, grid_of-reduced}
use Rattle.linear_algebra.proofs.RankExists.{rank_factorisation}
use Rattle.linear_algebra.proofs.Ranks.{rank_at_most_rows, rank_at_most_columns}
use Rattle.fp_linear.specs.Matrix.{PlainMatrix, IsMatrix, plain}
use Rattle.fp_linear.specs.Slices.{AreElements}
use Rattle.fp_linear.proofs.Cells.{IsGrid-rows_of, cell-entry, cell-is}
use Rattle.fp_linear.proofs.RankOf.{rank_of_answer}
use Rattle.path_algebra.specs.declared.Header.{Header}
use Rattle.representations.specs.Quiver.{Quiver}
use Rattle.representations.specs.Rep.{Rep}
use Rattle.bound_algebra.specs.TypedPaths.{quiver_of}
use Rattle.module_types.specs.declared.Side.{Side}
use Rattle.module_types.specs.declared.Side.TheVariants.{Right, Left}
use Rattle.module_types.specs.declared.Module.{Module}
use Rattle.module_types.specs.Algebras.{algebra_at}
use Rattle.module_types.specs.Readings.{rows_at, dim_at, rep_of, family_of}
use Rattle.module_types.specs.Shapes.{AreMatrices, IsMap}
use Rattle.claim_conditions.specs.Families.{AreReduced, AreCoReduced, ComposeToZero, ComposeToOne, HasKernelSize, HasCokernelSize}
use Rattle.module_checks.specs.VertexMatrices.{AreAllReduced, IsPlaceOf, ArePlaces, HavePlaces, IsColumnReduced, AreAllColumnReduced, IsZeroProduct, IsUnitProduct, HaveProduct, HaveProducts, AreZeroProducts, AreUnitProducts, HoldsEntries, rank_of_plain, HaveRoom, HaveRanks}
use Rattle.module_checks.proofs.HomRank.{IsPlainOf, plain_of_shape, dim_at-is}
use Rattle.module_checks.proofs.Squares.{product_typed}

-- A map has the same shapes over the quiver of each side.
pub map_beside : (h : Header) (side : Side) (a b : Module) (matrices : List PlainMatrix) → IsMap h.field (quiver_of h.quiver) a b matrices → IsMap h.field (algebra_at side h).quiver a b matrices
unfolding dim_at
map_beside h Right a b matrices M = M
map_beside h Left a b matrices M = record { counted = M.counted; each = M.each }

module _ {q : Gf} {l m n : ℕ} (f : Mat q l m) (g : Mat q m n) (a b : PlainMatrix) (x : IsPlainOf a f) (y : IsPlainOf b g) where
  pub product_zero : IsZeroProduct q a b a.row_count → f · g ≡ zeros q l n
  unfolding zeros
  product_zero h = Mat-eq_below _ _ (λ i j u v. sym (product_typed f g a b x y i j) ∙ (h.at i (subst (λ n. i < n) (sym x.row_count) u)).at j (subst (λ n. j < n) (sym y.col_count) v))

  pub zero_of_product : f · g ≡ zeros q l n → IsZeroProduct q a b a.row_count
  unfolding zeros
  zero_of_product e = record { at = λ i u. record { at = λ j v. product_typed f g a b x y i j ∙ ap (λ (h : Mat q l n). h.at i j) e } }

module _ {q : Gf} {l m : ℕ} (f : Mat q l m) (g : Mat q m l) (a b : PlainMatrix) (x : IsPlainOf a f) (y : IsPlainOf b g) where
  pub product_one : IsUnitProduct q a b a.row_count → f · g ≡ one q l
  product_one h = Mat-eq_below _ _ (λ i j u v.
      sym (product_typed f g a b x y i j) ∙ (h.at i (subst (λ n. i < n) (sym x.row_count) u)).at j (subst (λ n. j < n) (sym y.col_count) v) ∙ sym (one-at q l i j u))

  pub one_of_product : f · g ≡ one q l → IsUnitProduct q a b a.row_count
  one_of_product e = record {
    at = λ i u. record { at = λ j v. product_typed f g a b x y i j ∙ ap (λ (h : Mat q l l). h.at i j) e ∙ one-at q l i j (subst (λ n. i < n) x.row_count u) };
  }

module _ {q : Gf} {m n : ℕ} (f : Mat q m n) (a : PlainMatrix) (x : IsPlainOf a f) where
  pub places_read : (place : ℕ → ℕ) → ArePlaces a.row_count a.col_count a.rows a.col_count place → IsCoReduced f place
  places_read place p = record {
    inside = λ i l. let b = (p.each i (let e = x.col_count in omega (arith, e, l))).inside in omega (arith, b, x.row_count);
    unit = λ i k b c. sym (x.entries (place i) k) ∙ (p.each i (omega (arith, x.col_count, b))).unit k (omega (arith, x.col_count, c));
    further = λ i k b c. p.further i k b (omega (arith, x.col_count, c));
    after = λ i r b c. elim (cases_lt r m) [
      | inl l ↦ sym (x.entries r i) ∙ (p.each i (omega (arith, x.col_count, b))).after r c (omega (arith, x.row_count, l))
      | inr g ↦ f.fits.below r i g
    ];
  }

  pub places_of_read : (place : ℕ → ℕ) → IsCoReduced f place → ArePlaces a.row_count a.col_count a.rows a.col_count place
  places_of_read place c = record {
    each = λ i l. record {
      inside = let b = c.inside i (omega (arith, x.col_count, l)) in omega (arith, b, x.row_count);
      unit = λ j k. x.entries (place i) j ∙ c.unit i j (omega (arith, x.col_count, l)) (omega (arith, x.col_count, k));
      after = λ r k b. x.entries r i ∙ c.after i r (omega (arith, x.col_count, l)) k;
    };
    further = λ i j k l. c.further i j k (omega (arith, x.col_count, l));
  }

no_rows_reduced : {q : Gf} {m n : ℕ} (f : Mat q m n) → m ≡ 0 → (p : ℕ → ℕ) × IsRowReduced f p
no_rows_reduced f e = (
  λ i. 0,
  record {
    inside = λ i l. absurd (omega arith);
    one = λ i l. absurd (omega arith);
    before = λ i j l k. absurd (omega arith);
    further = λ i k l b. absurd (omega arith);
    cleared = λ i k l b d. absurd (omega arith);
  },
)

no_columns_reduced : {q : Gf} {m n : ℕ} (f : Mat q m n) → n ≡ 0 → (p : ℕ → ℕ) × IsCoReduced f p
no_columns_reduced f e = (
  λ i. 0,
  record {
    inside = λ i l. absurd (omega arith);
    unit = λ i k l b. absurd (omega arith);
    further = λ i k l b. absurd (omega arith);
    after = λ i r l b. absurd (omega arith);
  },
)

abbrev pub some_matrix : Gf → PlainMatrix
some_matrix q = plain q 0 0 []

module _ {q : Gf} {Q : Quiver} (X Y : Rep q Q) (matrices : List PlainMatrix) (M : AreMatrices q Q.vertices X.dim Y.dim matrices) where
  pub in_list : (v : ℕ) → v < Q.vertices → v < length matrices
  in_list v l = omega (arith, l, M.counted)

  pub is_vertex : (v : ℕ) → v < length matrices → v < Q.vertices
  is_vertex v l = omega (arith, l, M.counted)

  pub member : (v : ℕ) (p : PlainMatrix) → v < Q.vertices → IsPlainOf (slice_index_or matrices v p) (family_of X Y matrices v)
  member v p l = plain_of_shape q (X.dim v) (Y.dim v) v matrices p (in_list v l) (M.each v p l)

  pub rows_are : (v : ℕ) (p : PlainMatrix) → v < Q.vertices → rows_at matrices v ≡ (slice_index_or matrices v p).rows
  rows_are v p l = get_or-map (λ (m : PlainMatrix). m.rows) matrices v p [] (in_list v l)

  grid_at : (v : ℕ) (p : PlainMatrix) → v < Q.vertices → IsGrid q (X.dim v) (Y.dim v) (slice_index_or matrices v p).rows
  grid_at v p l =
      let s = M.each v p l in
      let a = slice_index_or matrices v p in
      subst (λ q. IsGrid q (X.dim v) (Y.dim v) a.rows) s.field (subst (λ m. IsGrid a.field m (Y.dim v) a.rows) s.row_count (subst (λ n. IsGrid a.field a.row_count n a.rows) s.col_count s.matrix.grid))

  pub reduced_family : AreAllReduced (length matrices) matrices → AreReduced X Y (family_of X Y matrices)
  reduced_family h w = elim (cases_lt w Q.vertices) [
    | inl l ↦
        let a = slice_index_or matrices w (some_matrix q) in
        let s = M.each w (some_matrix q) l in
        subst (λ (r : List (List ℕ)). (p : ℕ → ℕ) × IsRowReduced (as_mat q (X.dim w) (Y.dim w) r) p) (sym (rows_are w (some_matrix q) l))
        (pivot a.rows, row_reduced-as_mat q (X.dim w) (Y.dim w) a.rows (grid_at w (some_matrix q) l) (subst (λ n. IsReduced n a.rows) s.col_count (h.each w (some_matrix q) (in_list w l))))
    | inr l ↦ no_rows_reduced (family_of X Y matrices w) (X.past w l)
  ]

  pub family_reduced : AreReduced X Y (family_of X Y matrices) → AreAllReduced (length matrices) matrices
  family_reduced h = record {
    each = λ v p k.
        let l = is_vertex v k in
        let a = slice_index_or matrices v p in
        let s = M.each v p l in
        let here = subst (λ (r : List (List ℕ)). (p : ℕ → ℕ) × IsRowReduced (as_mat q (X.dim v) (Y.dim v) r) p) (rows_are v p l) (h v) in
        subst (λ n. IsReduced n a.rows) (sym s.col_count)
        (subst (IsReduced (Y.dim v)) (grid_of-as_mat q (X.dim v) (Y.dim v) a.rows (grid_at v p l)) (grid_of-reduced (as_mat q (X.dim v) (Y.dim v) a.rows) here.0 here.1));
  }

  pub column_reduced_family : AreAllColumnReduced (length matrices) matrices → AreCoReduced X Y (family_of X Y matrices)
  column_reduced_family h w = elim (cases_lt w Q.vertices) [
    | inl l ↦ let c = h.each w (some_matrix q) (in_list w l) in (c.place, places_read (family_of X Y matrices w) (slice_index_or matrices w (some_matrix q)) (member w (some_matrix q) l) c.place c.are)
    | inr l ↦ no_columns_reduced (family_of X Y matrices w) (Y.past w l)
  ]

  pub family_column_reduced : AreCoReduced X Y (family_of X Y matrices) → AreAllColumnReduced (length matrices) matrices
  family_column_reduced h = record {
    each = λ v p k. record { place = (h v).0; are = places_of_read (family_of X Y matrices v) (slice_index_or matrices v p) (member v p (is_vertex v k)) (h v).0 (h v).1 };
  }

  -- The rank of a matrix of the list is that of the family at the vertex.
  pub rank_there : (v : ℕ) (p : PlainMatrix) → v < Q.vertices → rank_of_plain (slice_index_or matrices v p) ≡ rank (family_of X Y matrices v)
  rank_there v p l =
      let s = M.each v p l in
      let a = slice_index_or matrices v p in
      ap (λ q. rank (as_mat q a.row_count a.col_count a.rows)) s.field ∙ ap (λ m. rank (as_mat q m a.col_count a.rows)) s.row_count ∙ ap (λ n. rank (as_mat q (X.dim v) n a.rows)) s.col_count
      ∙ ap (λ (r : List (List ℕ)). rank (as_mat q (X.dim v) (Y.dim v) r)) (sym (rows_are v p l))

  pub room_for : (entries pivots : List ℕ) → ((v : ℕ) → X.dim v ≤ 256) → ((v : ℕ) → Y.dim v ≤ 256) → 65536 ≤ length entries → 256 ≤ length pivots → HaveRoom matrices entries pivots
  room_for entries pivots x y e p = record {
    each = λ v a k. let s = M.each v a (is_vertex v k) in small (slice_index_or matrices v a).row_count (slice_index_or matrices v a).col_count (let d = x v in omega (arith, d, s.row_count)) (let d = y v in omega (arith, d, s.col_count));
    rows = λ v a k. let s = M.each v a (is_vertex v k) in let d = x v in omega (arith, d, s.row_count, p);
  }
    where
      small : (m n : ℕ) → m ≤ 256 → n ≤ 256 → m * n ≤ length entries
      small m n a b = let c : m * n ≤ 256 * n = mul-le-mul_right n a in omega (arith, c, b, e)

module _ {q : Gf} {Q : Quiver} (X Y Z : Rep q Q) (first second : List PlainMatrix) (F : AreMatrices q Q.vertices X.dim Y.dim first) (G : AreMatrices q Q.vertices Y.dim Z.dim second) where
  pub have_products : HaveProducts q first second
  have_products = record {
    counted = F.counted ∙ sym G.counted;
    each = λ v a b k.
        let l = is_vertex X Y first F v k in
        record { first_field = (F.each v a l).field; second_field = (G.each v b l).field; between = (F.each v a l).col_count ∙ sym (G.each v b l).row_count };
  }

  pub compose_to_zero : AreZeroProducts q (length first) first second → ComposeToZero X Y Z (family_of X Y first) (family_of Y Z second)
  unfolding zeros
  compose_to_zero h w = elim (cases_lt w Q.vertices) [
    | inl l ↦ product_zero (family_of X Y first w) (family_of Y Z second w) _ _ (member X Y first F w (some_matrix q) l) (member Y Z second G w (some_matrix q) l)
        (h.each w (some_matrix q) (some_matrix q) (in_list X Y first F w l))
    | inr l ↦ Mat-eq_below _ _ (λ i j a b. absurd (let e = X.past w l in omega arith))
  ]

  pub zero_of_composed : ComposeToZero X Y Z (family_of X Y first) (family_of Y Z second) → AreZeroProducts q (length first) first second
  zero_of_composed h = record {
    each = λ v a b k.
        let l = is_vertex X Y first F v k in
        zero_of_product (family_of X Y first v) (family_of Y Z second v) _ _ (member X Y first F v a l) (member Y Z second G v b l) (h v);
  }

module _ {q : Gf} {Q : Quiver} (X Y : Rep q Q) (first second : List PlainMatrix) (F : AreMatrices q Q.vertices X.dim Y.dim first) (G : AreMatrices q Q.vertices Y.dim X.dim second) where
  pub compose_to_one : AreUnitProducts q (length first) first second → ComposeToOne X Y (family_of X Y first) (family_of Y X second)
  compose_to_one h w = elim (cases_lt w Q.vertices) [
    | inl l ↦ product_one (family_of X Y first w) (family_of Y X second w) _ _ (member X Y first F w (some_matrix q) l) (member Y X second G w (some_matrix q) l)
        (h.each w (some_matrix q) (some_matrix q) (in_list X Y first F w l))
    | inr l ↦ Mat-eq_below _ _ (λ i j a b. absurd (let e = X.past w l in omega arith))
  ]

  pub one_of_composed : ComposeToOne X Y (family_of X Y first) (family_of Y X second) → AreUnitProducts q (length first) first second
  one_of_composed h = record {
    each = λ v a b k.
        let l = is_vertex X Y first F v k in
        one_of_product (family_of X Y first v) (family_of Y X second v) _ _ (member X Y first F v a l) (member Y X second G v b l) (h v);
  }

swapped : (x y z : ℕ) → x + y ≡ z → y + x ≡ z
swapped x y z e = omega (arith, e)

-- Dimensions and ranks at the vertices.
module _ {q : Gf} (Q : Quiver) (n a b : Module) (f : List PlainMatrix) (F : AreMatrices q Q.vertices (dim_at Q a.dims) (dim_at Q b.dims) f) where
  abbrev part : Rep q Q
  part = rep_of q Q n

  abbrev from : Rep q Q
  from = rep_of q Q a

  abbrev to : Rep q Q
  to = rep_of q Q b

  pub kernel_size : HaveRanks (length f) n.dims a.dims f → HasKernelSize part from to (family_of from to f)
  kernel_size h w = elim (cases_lt w Q.vertices) [
    | inl l ↦
        let e = h.each w (some_matrix q) (in_list from to f F w l) in
        let r = rank_there from to f F w (some_matrix q) l in
        ap₂ (λ x y. x + y) (dim_at-is Q n.dims w l) (sym r) ∙ e ∙ sym (dim_at-is Q a.dims w l)
    | inr l ↦ let x = part.past w l in let y = from.past w l in let r = rank_at_most_rows (family_of from to f w) in omega (arith, x, y, r)
  ]

  pub ranks_of_kernel : HasKernelSize part from to (family_of from to f) → HaveRanks (length f) n.dims a.dims f
  ranks_of_kernel h = record {
    each = λ v p k.
        let l = is_vertex from to f F v k in
        ap₂ (λ x y. x + y) (sym (dim_at-is Q n.dims v l)) (rank_there from to f F v p l) ∙ h v ∙ dim_at-is Q a.dims v l;
  }

  pub cokernel_size : HaveRanks (length f) n.dims b.dims f → HasCokernelSize from to part (family_of from to f)
  cokernel_size h w = elim (cases_lt w Q.vertices) [
    | inl l ↦
        let e = h.each w (some_matrix q) (in_list from to f F w l) in
        let r = rank_there from to f F w (some_matrix q) l in
        swapped (part.dim w) (rank (family_of from to f w)) (to.dim w) (ap₂ (λ x y. x + y) (dim_at-is Q n.dims w l) (sym r) ∙ e ∙ sym (dim_at-is Q b.dims w l))
    | inr l ↦ let x = part.past w l in let y = to.past w l in let r = rank_at_most_columns (family_of from to f w) in omega (arith, x, y, r)
  ]

  pub ranks_of_cokernel : HasCokernelSize from to part (family_of from to f) → HaveRanks (length f) n.dims b.dims f
  ranks_of_cokernel h = record {
    each = λ v p k.
        let l = is_vertex from to f F v k in
        ap₂ (λ x y. x + y) (sym (dim_at-is Q n.dims v l)) (rank_there from to f F v p l) ∙ swapped (rank (family_of from to f v)) (part.dim v) (to.dim v) (h v) ∙ dim_at-is Q b.dims v l;
  }

-- A copy of the entries is read as the matrix, and elimination of it answers the rank.
pub copied_rank : (a : PlainMatrix) (s new pivots : List ℕ) (r : ℕ) → IsMatrix a → HoldsEntries a (a.row_count * a.col_count) s → AreElements a.field s → AreElements a.field new
    → ReducesTo a.field a.col_count (rows_of a.row_count a.col_count s) (rows_of a.row_count a.col_count new) pivots r → r ≡ rank_of_plain a
unfolding rank
copied_rank a s new pivots r is h x y d =
    let same : as_mat a.field a.row_count a.col_count (rows_of a.row_count a.col_count s) ≡ as_mat a.field a.row_count a.col_count a.rows = copied_matrix in
    let F = rank_factorisation (as_mat a.field a.row_count a.col_count (rows_of a.row_count a.col_count s)) in
    sym (rank_of_answer a.field a.row_count a.col_count (rows_of a.row_count a.col_count s) (rows_of a.row_count a.col_count new) pivots r (IsGrid-rows_of a.field a.row_count a.col_count s x)
    (IsGrid-rows_of a.field a.row_count a.col_count new y) d F)
    ∙ ap rank same
  where
    copied_matrix : as_mat a.field a.row_count a.col_count (rows_of a.row_count a.col_count s) ≡ as_mat a.field a.row_count a.col_count a.rows
    copied_matrix = Mat-eq_below _ _ (λ i j u v.
        as_mat-entry a.field a.row_count a.col_count (rows_of a.row_count a.col_count s) (IsGrid-rows_of a.field a.row_count a.col_count s x) i j
        ∙ cell-entry a.row_count a.col_count s i j u v ∙ cell-is a.col_count s i j
        ∙ h.at (i * a.col_count + j) (let b = mul-add-lt i a.col_count j a.row_count u v in omega (arith, b))
        ∙ ap₂ (entry a.rows) (div-mul-add i a.col_count j v) (mod-mul-add i a.col_count j v)
        ∙ sym (as_mat-entry a.field a.row_count a.col_count a.rows is.grid i j))

-- The places of the columns, one after another.
pub places-none : (m n : ℕ) (rows : List (List ℕ)) → HavePlaces m n rows 0 0
places-none m n rows = record {
  place = λ i. 0;
  are = record { each = λ i l. absurd (omega arith); further = λ i j l k. absurd (omega arith) };
  first = λ e. refl;
  last = λ i e. absurd (omega arith);
}

-- A column has one place.
pub place_unique : (m n : ℕ) (rows : List (List ℕ)) (k p r : ℕ) → k < n → IsPlaceOf m n rows k p → IsPlaceOf m n rows k r → p ≡ r
place_unique m n rows k p r l x y = elim (cases_lt p r) [
  | inl a ↦ absurd (not_both (entry rows r k) (x.after r a y.inside) (y.unit k l ∙ delta-same k))
  | inr a ↦ elim (cases_lt r p) [
    | inl b ↦ absurd (not_both (entry rows p k) (y.after p b x.inside) (x.unit k l ∙ delta-same k))
    | inr b ↦ omega (arith, a, b)
  ]
]
  where
    not_both : (e : ℕ) → e ≡ 0 → e ≡ 1 → ⊥
    not_both e a b = omega (arith, a, b)

pub places-more : (m n : ℕ) (rows : List (List ℕ)) (k least p : ℕ) → HavePlaces m n rows k least → least ≤ p → IsPlaceOf m n rows k p → HavePlaces m n rows (k + 1) (p + 1)
places-more m n rows k least p h b is = record {
  place = place;
  are = record {
    each = λ i l. elim (cases_lt i k) [
      | inl c ↦ subst (IsPlaceOf m n rows i) (sym (earlier i c)) (h.are.each i c)
      | inr c ↦ let e : i ≡ k = omega arith in subst (λ i. IsPlaceOf m n rows i (place i)) (sym e) (subst (IsPlaceOf m n rows k) (sym here) is)
    ];
    further = λ i j l c. elim (cases_lt j k) [
      | inl d ↦ let e = earlier i (omega arith) in let f = earlier j d in let g = h.are.further i j l d in omega (arith, e, f, g)
      | inr d ↦ let e : j ≡ k = omega arith in let f = earlier i (omega arith) in let g = before i (omega arith) in let at : place j ≡ p = ap place e ∙ here in omega (arith, f, g, at, b)
    ];
  };
  first = λ e. absurd (omega arith);
  last = λ i e. let same : i ≡ k = omega arith in let at : place i ≡ p = ap place same ∙ here in omega (arith, at);
}
  where
    place : ℕ → ℕ
    place i = if ltb i k then h.place i else p

    earlier : (i : ℕ) → i < k → place i ≡ h.place i
    earlier i l = cond-true (ltb i k) (h.place i) p (lt-ltb i k l)

    here : place k ≡ p
    here = cond-false (ltb k k) (h.place k) p (le-ltb k k (omega arith))

    -- a place before k stands before `least`
    before : (i : ℕ) → i < k → h.place i < least
    before i l = elim (cases_eq (suc i) k) [
      | inl e ↦ let d = h.last i e in omega (arith, d)
      | inr d ↦ let last : suc (k - 1) ≡ k = omega arith in let e = h.last (k - 1) last in let f = h.are.further i (k - 1) (omega arith) (omega arith) in omega (arith, e, f)
    ]

pub places_fail : (a : PlainMatrix) (k least : ℕ) → k < a.col_count → HavePlaces a.row_count a.col_count a.rows k least
    → ((p : ℕ) → least ≤ p → IsPlaceOf a.row_count a.col_count a.rows k p → ⊥) → IsColumnReduced a → ⊥
places_fail a k least l h none c = none (c.place k) (elim (cases_eq k 0) [
  | inl e ↦ let f = h.first e in omega (arith, f)
  | inr d ↦
      let last : suc (k - 1) ≡ k = omega arith in
      let e = h.last (k - 1) last in
      let same = place_unique a.row_count a.col_count a.rows (k - 1) (h.place (k - 1)) (c.place (k - 1)) (omega arith) (h.are.each (k - 1) (omega arith)) (c.are.each (k - 1) (omega arith)) in
      let f = c.are.further (k - 1) k (omega arith) l in
      omega (arith, e, same, f)
]) (c.are.each k l)

pub places_all : (a : PlainMatrix) (k least : ℕ) → k ≡ a.col_count → HavePlaces a.row_count a.col_count a.rows k least → IsColumnReduced a
places_all a k least e h = record { place = h.place; are = subst (λ k. ArePlaces a.row_count a.col_count a.rows k h.place) e h.are }

-- What holds of the matrices one after another.
pub item_same : (xs : List PlainMatrix) (k : ℕ) (a p : PlainMatrix) → k < length xs → a ≡ slice_index_or xs k a → slice_index_or xs k p ≡ a
item_same xs k a p l e = get_or_default xs k p a l ∙ sym e

pub each_more : (P : ℕ → PlainMatrix → Type 0) (xs : List PlainMatrix) (k : ℕ) (a : PlainMatrix) → k < length xs → a ≡ slice_index_or xs k a
    → ((v : ℕ) (p : PlainMatrix) → v < k → P v (slice_index_or xs v p)) → P k a → (v : ℕ) (p : PlainMatrix) → v < k + 1 → P v (slice_index_or xs v p)
each_more P xs k a l e h b v p m = elim (cases_eq v k) [
  | inl same ↦ subst (λ v. P v (slice_index_or xs v p)) (sym same) (subst (P k) (sym (item_same xs k a p l e)) b)
  | inr other ↦ h v p (omega arith)
]

pub reduced_more : (xs : List PlainMatrix) (k : ℕ) (a : PlainMatrix) → k < length xs → a ≡ slice_index_or xs k a → AreAllReduced k xs → IsReduced a.col_count a.rows → AreAllReduced (k + 1) xs
reduced_more xs k a l e h b = record { each = each_more (λ v a. IsReduced a.col_count a.rows) xs k a l e h.each b }

pub reduced_there : (xs : List PlainMatrix) (n k : ℕ) (a : PlainMatrix) → k < length xs → k < n → a ≡ slice_index_or xs k a → AreAllReduced n xs → IsReduced a.col_count a.rows
reduced_there xs n k a l m e h = subst (λ (a : PlainMatrix). IsReduced a.col_count a.rows) (sym e) (h.each k a m)

pub column_reduced_more : (xs : List PlainMatrix) (k : ℕ) (a : PlainMatrix) → k < length xs → a ≡ slice_index_or xs k a → AreAllColumnReduced k xs → IsColumnReduced a → AreAllColumnReduced (k + 1) xs
column_reduced_more xs k a l e h b = record { each = each_more (λ v a. IsColumnReduced a) xs k a l e h.each b }

pub column_reduced_there : (xs : List PlainMatrix) (n k : ℕ) (a : PlainMatrix) → k < n → a ≡ slice_index_or xs k a → AreAllColumnReduced n xs → IsColumnReduced a
column_reduced_there xs n k a m e h = subst IsColumnReduced (sym e) (h.each k a m)

pub zero_products_more : (q : Gf) (xs ys : List PlainMatrix) (k : ℕ) (a b : PlainMatrix) → k < length xs → k < length ys → a ≡ slice_index_or xs k a → b ≡ slice_index_or ys k b
    → AreZeroProducts q k xs ys → IsZeroProduct q a b a.row_count → AreZeroProducts q (k + 1) xs ys
zero_products_more q xs ys k a b l m e f h z = record {
  each = λ v p r c. elim (cases_eq v k) [
    | inl same ↦ subst (λ v. IsZeroProduct q (slice_index_or xs v p) (slice_index_or ys v r) (slice_index_or xs v p).row_count) (sym same)
        (subst (λ (x : PlainMatrix). IsZeroProduct q x (slice_index_or ys k r) x.row_count) (sym (item_same xs k a p l e)) (subst (λ y. IsZeroProduct q a y a.row_count) (sym (item_same ys k b r m f)) z))
    | inr other ↦ h.each v p r (omega arith)
  ];
}

pub zero_products_there : (q : Gf) (xs ys : List PlainMatrix) (n k : ℕ) (a b : PlainMatrix) → k < n → a ≡ slice_index_or xs k a → b ≡ slice_index_or ys k b → AreZeroProducts q n xs ys → IsZeroProduct q a b a.row_count
zero_products_there q xs ys n k a b l e f h = subst (λ (x : PlainMatrix). IsZeroProduct q x b x.row_count) (sym e) (subst (λ y. IsZeroProduct q (slice_index_or xs k a) y (slice_index_or xs k a).row_count) (sym f) (h.each k a b l))

pub unit_products_more : (q : Gf) (xs ys : List PlainMatrix) (k : ℕ) (a b : PlainMatrix) → k < length xs → k < length ys → a ≡ slice_index_or xs k a → b ≡ slice_index_or ys k b
    → AreUnitProducts q k xs ys → IsUnitProduct q a b a.row_count → AreUnitProducts q (k + 1) xs ys
unit_products_more q xs ys k a b l m e f h z = record {
  each = λ v p r c. elim (cases_eq v k) [
    | inl same ↦ subst (λ v. IsUnitProduct q (slice_index_or xs v p) (slice_index_or ys v r) (slice_index_or xs v p).row_count) (sym same)
        (subst (λ (x : PlainMatrix). IsUnitProduct q x (slice_index_or ys k r) x.row_count) (sym (item_same xs k a p l e)) (subst (λ y. IsUnitProduct q a y a.row_count) (sym (item_same ys k b r m f)) z))
    | inr other ↦ h.each v p r (omega arith)
  ];
}

pub unit_products_there : (q : Gf) (xs ys : List PlainMatrix) (n k : ℕ) (a b : PlainMatrix) → k < n → a ≡ slice_index_or xs k a → b ≡ slice_index_or ys k b → AreUnitProducts q n xs ys → IsUnitProduct q a b a.row_count
unit_products_there q xs ys n k a b l e f h = subst (λ (x : PlainMatrix). IsUnitProduct q x b x.row_count) (sym e) (subst (λ y. IsUnitProduct q (slice_index_or xs k a) y (slice_index_or xs k a).row_count) (sym f) (h.each k a b l))

pub product_fits : (q : Gf) (xs ys : List PlainMatrix) (k : ℕ) (a b : PlainMatrix) → k < length xs → a ≡ slice_index_or xs k a → b ≡ slice_index_or ys k b → HaveProducts q xs ys → HaveProduct q a b
product_fits q xs ys k a b l e f h = subst (λ x. HaveProduct q x b) (sym e) (subst (λ y. HaveProduct q (slice_index_or xs k a) y) (sym f) (h.each k a b l))

pub ranks_more : (part whole : List ℕ) (xs : List PlainMatrix) (k : ℕ) (a : PlainMatrix) → k < length xs → a ≡ slice_index_or xs k a → HaveRanks k part whole xs
    → slice_index part k + rank_of_plain a ≡ slice_index whole k → HaveRanks (k + 1) part whole xs
ranks_more part whole xs k a l e h b = record { each = each_more (λ v a. slice_index part v + rank_of_plain a ≡ slice_index whole v) xs k a l e h.each b }

pub ranks_there : (part whole : List ℕ) (xs : List PlainMatrix) (n k : ℕ) (a : PlainMatrix) → k < n → a ≡ slice_index_or xs k a → HaveRanks n part whole xs → slice_index part k + rank_of_plain a ≡ slice_index whole k
ranks_there part whole xs n k a l e h = ap (λ a. slice_index part k + rank_of_plain a) e ∙ h.each k a l

pub place_is_last : (m n : ℕ) (rows : List (List ℕ)) (k p r : ℕ) → k < n → p < m → (entry rows p k ≡ 0 → ⊥) → ((i : ℕ) → p < i → i < m → entry rows i k ≡ 0) → IsPlaceOf m n rows k r → r ≡ p
place_is_last m n rows k p r l b d h x = elim (cases_lt p r) [
  | inl a ↦ absurd (let z = h r a x.inside in let o = x.unit k l ∙ delta-same k in omega (arith, z, o))
  | inr a ↦ elim (cases_lt r p) [
    | inl c ↦ absurd (d (x.after p c b))
    | inr c ↦ omega (arith, a, c)
  ]
]

pub no_place : (m n : ℕ) (rows : List (List ℕ)) (k r : ℕ) → k < n → ((i : ℕ) → i < m → entry rows i k ≡ 0) → IsPlaceOf m n rows k r → ⊥
no_place m n rows k r l h x = let z = h r x.inside in let o = x.unit k l ∙ delta-same k in omega (arith, z, o)

pub copied_more : (a : PlainMatrix) (e v : ℕ) (s : List ℕ) → e < length s → v ≡ entry a.rows (e / a.col_count) (e % a.col_count) → HoldsEntries a e s → HoldsEntries a (e + 1) (set s e v)
copied_more a e v s l d h = record {
  at = λ k b. elim (cases_eq k e) [
    | inl same ↦ ap (λ k. get_or (set s e v) k 0) same ∙ get_or-set_same s e v 0 l ∙ d ∙ ap (λ k. entry a.rows (k / a.col_count) (k % a.col_count)) (sym same)
    | inr other ↦ get_or-set_other s e k v 0 other ∙ h.at k (omega arith)
  ];
}

pub copied_elements : (a : PlainMatrix) (e : ℕ) (s : List ℕ) → IsMatrix a → length s ≤ e → HoldsEntries a e s → AreElements a.field s
copied_elements a e s is l h = record {
  small = λ k. elim (cases_lt k (length s)) [
    | inl b ↦ rw (h.at k (omega (arith, l, b))) (is.grid.small (k / a.col_count) (k % a.col_count))
    | inr b ↦ rw (get_or_past s k 0 b) (order-pos a.field)
  ];
}
