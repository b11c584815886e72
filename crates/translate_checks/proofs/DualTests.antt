-- Whether a module is the dual of another, by dimensions and matrices.
use Rattle.std.proofs.Common.{ℕ, ◌≡◌, ◌<◌, ◌+◌, List, length, inl, inr, sym, ap, ◌∙◌, arith, subst}
use Rattle.std.specs.Prelude.{slice_index_or}
use Rattle.std.proofs.lemmas.Bool.{cases_lt, cases_eq}
use Rattle.std.proofs.lemmas.List.{get_or_default}
use Rattle.linear_algebra.specs.Field.{Gf}
use Rattle.linear_algebra.specs.Matrix.{transpose}
use Rattle.linear_algebra.specs.Rows.{entry}
use Rattle.linear_algebra.proofs.MatrixLaws.{transpose-at}
use Rattle.fp_linear.specs.Matrix.{PlainMatrix}
use Rattle.path_algebra.specs.declared.Header.{Header}
use Rattle.representations.specs.Quiver.{Quiver, opposite}
use Rattle.representations.specs.Rep.{Rep}
use Rattle.representations.specs.Dual.{dual}
use Rattle.representations.proofs.RepEqual.{Rep-eq}
use Rattle.bound_algebra.specs.BoundAlgebra.{bound_algebra}
use Rattle.module_types.specs.declared.Side.{Side}
use Rattle.module_types.specs.declared.Module.{Module}
use Rattle.module_types.specs.Algebras.{algebra_at, other_side}
use Rattle.module_types.specs.Readings.{rep_of, dim_at}
use Rattle.module_types.specs.Shapes.{IsModule}
use Rattle.module_types.proofs.Duals.{quiver_across}
use Rattle.module_checks.proofs.HomRank.{dim_at-is}
use Rattle.module_checks.proofs.VertexMatrices.{some_matrix}
use Rattle.translate_checks.specs.Duals.{IsTransposedRow, IsTransposed, AreTransposed, AgreeBelow}
use Rattle.translate_checks.proofs.Ends.{arrow_plain}

-- a module of the other side has the shapes of the opposite quiver
pub across_shape : (h : Header) (side other : Side) (m : Module) → other ≡ other_side side → IsModule h.field (algebra_at other h).quiver m → IsModule h.field (opposite (algebra_at side h).quiver) m
across_shape h side other m e M = subst (λ Q. IsModule h.field Q m) (quiver_across side (bound_algebra h)) (subst (λ s. IsModule h.field (algebra_at s h).quiver m) e M)

pub transposed_row-more : (a b : PlainMatrix) (i j : ℕ) → entry b.rows i j ≡ entry a.rows j i → IsTransposedRow a b i j → IsTransposedRow a b i (j + 1)
transposed_row-more a b i j e t = record { at = λ k l. elim (cases_eq k j) [ inl f ↦ subst (λ k. entry b.rows i k ≡ entry a.rows k i) (sym f) e | inr d ↦ t.at k (omega arith) ] }

pub transposed-more : (a b : List PlainMatrix) (k : ℕ) (x y : PlainMatrix) → x ≡ slice_index_or a k x → y ≡ slice_index_or b k y → k < length a → k < length b → IsTransposed x y y.row_count → AreTransposed a b k → AreTransposed a b (k + 1)
transposed-more a b k x y xe ye la lb t s = record {
  each = λ i u v l. elim (cases_eq i k) [
    | inl e ↦ subst (λ i. IsTransposed (slice_index_or a i u) (slice_index_or b i v) (slice_index_or b i v).row_count) (sym e)
        (subst (λ z. IsTransposed z (slice_index_or b k v) (slice_index_or b k v).row_count) (xe ∙ get_or_default a k x u la)
        (subst (λ z. IsTransposed x z z.row_count) (ye ∙ get_or_default b k y v lb) t))
    | inr d ↦ s.each i u v (omega arith)
  ];
}

module _ (q : Gf) (Q : Quiver) (a b : Module) (A : IsModule q Q a) (B : IsModule q (opposite Q) b) where
  pub dual_yes : AgreeBelow a.dims b.dims (length a.dims) → AreTransposed a.matrices b.matrices Q.arrows → rep_of q (opposite Q) b ≡ dual (rep_of q Q a)
  dual_yes d t = Rep-eq (rep_of q (opposite Q) b) (dual (rep_of q Q a)) dims entries
    where
      dims : (v : ℕ) → (rep_of q (opposite Q) b).dim v ≡ (rep_of q Q a).dim v
      dims v = elim (cases_lt v Q.vertices) [
        | inl l ↦ dim_at-is (opposite Q) b.dims v l ∙ sym (d.at v (let c = A.counted in omega (arith, c, l))) ∙ sym (dim_at-is Q a.dims v l)
        | inr g ↦ (rep_of q (opposite Q) b).past v g ∙ sym ((rep_of q Q a).past v g)
      ]

      entries : (k i j : ℕ) → ((rep_of q (opposite Q) b).mat k).at i j ≡ (transpose ((rep_of q Q a).mat k)).at i j
      entries k i j = elim (cases_lt k Q.arrows) [
        | inl l ↦
            let x = slice_index_or a.matrices k (some_matrix q) in
            let y = slice_index_or b.matrices k (some_matrix q) in
            let px = arrow_plain q Q a A k l x (get_or_default a.matrices k (some_matrix q) x (let c = A.matrices.counted in omega (arith, c, l))) in
            let py = arrow_plain q (opposite Q) b B k l y (get_or_default b.matrices k (some_matrix q) y (let c = B.matrices.counted in omega (arith, c, l))) in
            elim (cases_lt i ((rep_of q (opposite Q) b).dim (Q.target k))) [
              | inl u ↦ elim (cases_lt j ((rep_of q (opposite Q) b).dim (Q.source k))) [
                | inl v ↦ sym (py.entries i j) ∙ ((t.each k (some_matrix q) (some_matrix q) l).each i (omega (arith, py.row_count, u))).at j (omega (arith, py.col_count, v)) ∙ px.entries j i ∙ sym (transpose-at ((rep_of q Q a).mat k) i j)
                | inr v ↦ ((rep_of q (opposite Q) b).mat k).fits.right i j v ∙ sym ((transpose ((rep_of q Q a).mat k)).fits.right i j (let e = dims (Q.source k) in omega (arith, e, v)))
              ]
              | inr u ↦ ((rep_of q (opposite Q) b).mat k).fits.below i j u ∙ sym ((transpose ((rep_of q Q a).mat k)).fits.below i j (let e = dims (Q.target k) in omega (arith, e, u)))
            ]
        | inr g ↦
            let e = (rep_of q (opposite Q) b).past (Q.source k) (Q.source_past k g) in
            let f = (rep_of q Q a).past (Q.source k) (Q.source_past k g) in
            ((rep_of q (opposite Q) b).mat k).fits.right i j (omega (arith, e)) ∙ sym ((transpose ((rep_of q Q a).mat k)).fits.right i j (omega (arith, f)))
      ]

  pub dims_no : rep_of q (opposite Q) b ≡ dual (rep_of q Q a) → AgreeBelow a.dims b.dims (length a.dims)
  dims_no e = record {
    at = λ v l.
        let b1 : v < Q.vertices = let c = A.counted in omega (arith, c, l) in
        sym (dim_at-is Q a.dims v b1) ∙ sym (ap (λ (X : Rep q (opposite Q)). X.dim v) e) ∙ dim_at-is (opposite Q) b.dims v b1;
  }

  pub transposed_no : (k : ℕ) (x y : PlainMatrix) → k < Q.arrows → x ≡ slice_index_or a.matrices k x → y ≡ slice_index_or b.matrices k y → rep_of q (opposite Q) b ≡ dual (rep_of q Q a) → IsTransposed x y y.row_count
  transposed_no k x y l xe ye e = record {
    each = λ i u. record {
      at = λ j v.
          (arrow_plain q (opposite Q) b B k l y ye).entries i j ∙ ap (λ (X : Rep q (opposite Q)). (X.mat k).at i j) e ∙ transpose-at ((rep_of q Q a).mat k) i j
          ∙ sym ((arrow_plain q Q a A k l x xe).entries j i);
    };
  }

  -- sizes
  pub rows_turned : (k : ℕ) (x y : PlainMatrix) → k < Q.arrows → x ≡ slice_index_or a.matrices k x → y ≡ slice_index_or b.matrices k y → AgreeBelow a.dims b.dims (length a.dims) → (y.row_count ≡ x.col_count) × (y.col_count ≡ x.row_count)
  rows_turned k x y l xe ye d =
      let px = arrow_plain q Q a A k l x xe in
      let py = arrow_plain q (opposite Q) b B k l y ye in
      (py.row_count ∙ same (Q.target k) ∙ sym px.col_count, py.col_count ∙ same (Q.source k) ∙ sym px.row_count)
    where
      same : (v : ℕ) → dim_at (opposite Q) b.dims v ≡ dim_at Q a.dims v
      same v = elim (cases_lt v Q.vertices) [
        | inl l ↦ dim_at-is (opposite Q) b.dims v l ∙ sym (d.at v (let c = A.counted in omega (arith, c, l))) ∙ sym (dim_at-is Q a.dims v l)
        | inr g ↦ (rep_of q (opposite Q) b).past v g ∙ sym ((rep_of q Q a).past v g)
      ]
