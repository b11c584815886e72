-- Co-reduced projections at the vertices are quotients, where each arrow takes what they take to zero to what they take to zero; and so by a projection.
use Rattle.std.proofs.Common.{ℕ, ◌<◌, ◌≡◌, List, length, sym, ap, ◌∙◌, inl, inr, arith, subst}
use Rattle.std.specs.Prelude.{slice_index_or, []}
use Rattle.std.proofs.lemmas.Bool.{cases_lt}
use Rattle.std.proofs.lemmas.List.{get_or-map}
use Rattle.linear_algebra.specs.Field.{Gf}
use Rattle.linear_algebra.specs.Matrix.{Mat, zeros, ◌·◌}
use Rattle.linear_algebra.specs.MatrixLaws.{mul_assoc_mat, mul_zeros}
use Rattle.linear_algebra.specs.Rank.{IsInSpan}
use Rattle.linear_algebra.specs.Typed.{as_mat}
use Rattle.linear_algebra.proofs.KernelsBySize.{coreduced_surjective}
use Rattle.linear_algebra.proofs.Solving.{in_span_trans, in_span_image, left_inverse_surjective}
use Rattle.fp_linear.specs.Matrix.{PlainMatrix, plain}
use Rattle.row_spaces.specs.RowSpaces.{IsQuotientBy}
use Rattle.representations.specs.Quiver.{Quiver}
use Rattle.representations.specs.Rep.{Rep, IsMod}
use Rattle.representations.specs.Hom.{Hom}
use Rattle.representations.specs.Module.{IsEpi}
use Rattle.representations.proofs.Paths.{IsMod-epi}
use Rattle.path_algebra.specs.declared.Header.{Header}
use Rattle.module_types.specs.declared.Module.{Module}
use Rattle.module_types.specs.declared.Side.{Side}
use Rattle.module_types.specs.declared.Side.TheVariants.{Right}
use Rattle.module_types.specs.Algebras.{algebra_at}
use Rattle.module_types.specs.Readings.{dim_at, rows_at, rep_of, read, read_beside, family_of}
use Rattle.module_types.specs.Shapes.{IsModule, AreMatrices}
use Rattle.module_types.proofs.Written.{dim_at-below}
use Rattle.claim_conditions.specs.Families.{AreCoReduced}
use Rattle.module_faults.specs.ModuleFaults.{IsSmallModule}
use Rattle.module_faults.specs.MapFaults.{IsSmallMap}
use Rattle.module_operations.specs.VertexSpaces.{col_counts, projection_at, AreQuotients, IsQuotientOn, HaveProjections}
use Rattle.module_operations.proofs.FormSpaces.{no_columns_equal}

-- What vanishes on rows vanishes on their combinations.
pub vanishes_on_span : {q : Gf} {k m n c : ℕ} (f : Mat q m n) (p : Mat q n c) (y : Mat q k n) → f · p ≡ zeros q m c → IsInSpan f y → y · p ≡ zeros q k c
vanishes_on_span f p y e s = ap (λ z. z · p) (sym s.is) ∙ mul_assoc_mat s.by f p ∙ ap (λ z. s.by · z) e ∙ mul_zeros s.by

-- Where there is no row, and no column of the projection.
empty_quotient : {q : Gf} {c m n : ℕ} (f : Mat q m n) (onto : Mat q n c) → n ≡ 0 → c ≡ 0 → IsQuotientBy f onto
empty_quotient {q} {c} {m} f onto e d = record {
  place = λ i. 0;
  coreduced = record {
    inside = λ i l. absurd (omega arith);
    unit = λ i k l b. absurd (omega arith);
    further = λ i k l b. absurd (omega arith);
    after = λ i r l b. absurd (omega arith);
  };
  kills = no_columns_equal _ _ d;
  spans = λ x h. record { by = zeros q 1 m; is = no_columns_equal _ _ e };
}

module _ {q : Gf} {Q : Quiver} (X : Rep q Q) (size : ℕ → ℕ) (g : (v : ℕ) → Mat q (size v) (X.dim v)) (projections : List PlainMatrix) (H : HaveProjections X size g Q.vertices projections) where
  some : PlainMatrix
  some = plain q 0 0 []

  inside : (v : ℕ) → v < Q.vertices → v < length projections
  inside v l = let c = H.counted in omega arith

  count_is : (v : ℕ) (b : PlainMatrix) → v < Q.vertices → dim_at Q (col_counts projections) v ≡ (slice_index_or projections v b).col_count
  count_is v b l = dim_at-below Q (col_counts projections) v l ∙ get_or-map (λ (m : PlainMatrix). m.col_count) projections v b 0 (inside v l)

  rows_are : (v : ℕ) (b : PlainMatrix) → v < Q.vertices → rows_at projections v ≡ (slice_index_or projections v b).rows
  rows_are v b l = get_or-map (λ (m : PlainMatrix). m.rows) projections v b [] (inside v l)

  pub projections_at : (v : ℕ) → v < Q.vertices → IsQuotientBy (g v) (projection_at X projections v)
  projections_at v l =
      let b = slice_index_or projections v some in
      subst (λ (k : ℕ). IsQuotientBy (g v) (as_mat q (X.dim v) k (rows_at projections v))) (sym (count_is v some l))
      (subst (λ (rows : List (List ℕ)). IsQuotientBy (g v) (as_mat q (X.dim v) b.col_count rows)) (sym (rows_are v some l)) (H.each v some l).quotient)

  pub projections_matrices : AreMatrices q Q.vertices X.dim (dim_at Q (col_counts projections)) projections
  projections_matrices = record {
    counted = H.counted;
    each = λ v b l. record {
      matrix = (H.each v b l).matrix;
      field = ap (λ (m : PlainMatrix). m.field) (H.each v b l).shape;
      row_count = ap (λ (m : PlainMatrix). m.row_count) (H.each v b l).shape;
      col_count = sym (count_is v b l);
    };
  }

  pub projections_quotients : ((a : ℕ) → a < Q.arrows → Q.source a < Q.vertices) → ((a : ℕ) → a < Q.arrows → Q.target a < Q.vertices) → ((a : ℕ) → a < Q.arrows → IsInSpan (g (Q.target a)) (g (Q.source a) · X.mat a))
      → AreQuotients X projections
  projections_quotients s t stable = record {
    matrices = projections_matrices;
    coreduced = λ v l. ((projections_at v l).place, (projections_at v l).coreduced);
    stable = λ a l x e.
        let P = projections_at (Q.target a) (t a l) in
        let along : IsInSpan (g (Q.target a)) (x · X.mat a) =
        in_span_trans (g (Q.target a)) (g (Q.source a) · X.mat a) (x · X.mat a) (stable a l) (in_span_image (g (Q.source a)) x (X.mat a) ((projections_at (Q.source a) (s a l)).spans x e)) in
        sym (mul_assoc_mat x (X.mat a) (projection_at X projections (Q.target a))) ∙ vanishes_on_span (g (Q.target a)) (projection_at X projections (Q.target a)) (x · X.mat a) P.kills along;
  }

  -- read to a module with these dimensions
  pub projections_read : (dims : List ℕ) → dims ≡ col_counts projections → (v : ℕ) → IsQuotientBy (g v) (as_mat q (X.dim v) (dim_at Q dims v) (rows_at projections v))
  projections_read dims e v = subst (λ (d : List ℕ). IsQuotientBy (g v) (as_mat q (X.dim v) (dim_at Q d v) (rows_at projections v))) (sym e) (elim (cases_lt v Q.vertices) [
    | inl l ↦ projections_at v l
    | inr l ↦ empty_quotient (g v) (projection_at X projections v) (X.past v l) ((rep_of q Q (record { side = Right; dims = col_counts projections; matrices = [] })).past v l)
  ])

-- The module on the quotients, with the projections to it.
module _ (h : Header) (a n : Module) (projections : List PlainMatrix) (size : ℕ → ℕ) (g : (v : ℕ) → Mat h.field (size v) ((read h a).dim v)) (small : IsSmallModule h a) (S : IsQuotientOn h a n projections)
    (H : HaveProjections (read h a) size g (algebra_at a.side h).quiver.vertices projections) where
  abbrev Q : Quiver
  Q = (algebra_at a.side h).quiver

  abbrev pub onto : Hom (read h a) (read_beside h a n)
  onto = record { at = family_of (read h a) (read_beside h a n) projections; square = S.hom }

  pub onto_quotient : (v : ℕ) → IsQuotientBy (g v) (onto.at v)
  onto_quotient v = projections_read (read h a) size g projections H n.dims S.dims v

  pub onto_coreduced : AreCoReduced (read h a) (read_beside h a n) onto.at
  onto_coreduced v = ((onto_quotient v).place, (onto_quotient v).coreduced)

  pub onto_epi : IsEpi onto
  onto_epi v y = left_inverse_surjective (onto.at v) (coreduced_surjective (onto.at v) (onto_quotient v).place (onto_quotient v).coreduced) y

  pub quotient_small : IsSmallModule h n
  quotient_small = record {
    shape = subst (λ (s : Side). IsModule h.field (algebra_at s h).quiver n) (sym S.side) S.shape;
    over = subst (λ (s : Side). IsMod (algebra_at s h) (rep_of h.field (algebra_at s h).quiver n)) (sym S.side) (IsMod-epi (algebra_at a.side h) onto onto_epi small.over);
  }

  pub onto_small : IsSmallMap h a n projections
  onto_small = record {
    shape = subst (λ (d : List ℕ). AreMatrices h.field Q.vertices (dim_at Q a.dims) (dim_at Q d) projections) (sym S.dims) (projections_matrices (read h a) size g projections H);
    holds = record { side = sym S.side; hom = S.hom };
  }
