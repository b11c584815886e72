-- Bases in reduced row form at the vertices are subspaces, where each arrow takes what they span into what they span; and so by an embedding.
use Rattle.std.proofs.Common.{ℕ, ◌<◌, ◌≡◌, List, length, sym, ap, ◌∙◌, inl, inr, arith, subst}
use Rattle.std.specs.Prelude.{slice_index_or, []}
use Rattle.std.proofs.lemmas.Bool.{cases_lt}
use Rattle.std.proofs.lemmas.List.{get_or-map}
use Rattle.linear_algebra.specs.Field.{Gf}
use Rattle.linear_algebra.specs.Matrix.{Mat, Mat-eq_below, zeros, ◌·◌}
use Rattle.linear_algebra.specs.Rank.{IsInSpan}
use Rattle.linear_algebra.specs.Typed.{as_mat}
use Rattle.linear_algebra.proofs.RowForm.{reduced_independent}
use Rattle.linear_algebra.proofs.Solving.{in_span_trans, in_span_image, right_inverse_injective}
use Rattle.fp_linear.specs.Matrix.{PlainMatrix, plain}
use Rattle.row_spaces.specs.RowSpaces.{IsReducedMatrix, IsRowFormOf}
use Rattle.representations.specs.Quiver.{Quiver}
use Rattle.representations.specs.Rep.{Rep, IsMod}
use Rattle.representations.specs.Hom.{Hom}
use Rattle.representations.specs.Module.{IsMono}
use Rattle.representations.proofs.Paths.{IsMod-mono}
use Rattle.path_algebra.specs.declared.Header.{Header}
use Rattle.module_types.specs.declared.Module.{Module}
use Rattle.module_types.specs.declared.Side.{Side}
use Rattle.module_types.specs.declared.Side.TheVariants.{Right}
use Rattle.module_types.specs.Algebras.{algebra_at}
use Rattle.module_types.specs.Readings.{dim_at, rows_at, rep_of, read, read_beside, family_of, IsHom}
use Rattle.module_types.specs.Shapes.{IsModule, IsMap, AreMatrices}
use Rattle.module_types.proofs.Written.{dim_at-below}
use Rattle.claim_conditions.specs.Families.{AreReduced}
use Rattle.module_faults.specs.ModuleFaults.{IsSmallModule}
use Rattle.module_faults.specs.MapFaults.{IsSmallMap}
use Rattle.module_operations.specs.VertexSpaces.{row_counts, basis_at, AreSubspaces, IsSubmoduleOn, HaveForms}

pub no_columns_equal : {q : Gf} {m n : ℕ} (a b : Mat q m n) → n ≡ 0 → a ≡ b
no_columns_equal a b e = Mat-eq_below a b (λ i j l k. absurd (omega arith))

-- A matrix without rows is in reduced row form.
pub no_rows_reduced : {q : Gf} {k n : ℕ} (a : Mat q k n) → k ≡ 0 → IsReducedMatrix a
no_rows_reduced a d = (
  λ i. 0,
  record {
    inside = λ i l. absurd (omega arith);
    one = λ i l. absurd (omega arith);
    before = λ i j l b. absurd (omega arith);
    further = λ i j l b. absurd (omega arith);
    cleared = λ i j l b x. absurd (omega arith);
  },
)

-- Where there is no column, and no row of the basis.
empty_form : {q : Gf} {k m n : ℕ} (f : Mat q m n) (basis : Mat q k n) → n ≡ 0 → k ≡ 0 → IsRowFormOf f basis
empty_form {q} {k} {m} f basis e d = record {
  reduced = no_rows_reduced basis d;
  spans = record { by = zeros q m k; is = no_columns_equal _ _ e };
  spanned = record { by = zeros q k m; is = no_columns_equal _ _ e };
}

module _ {q : Gf} {Q : Quiver} (X : Rep q Q) (size : ℕ → ℕ) (g : (v : ℕ) → Mat q (size v) (X.dim v)) (bases : List PlainMatrix) (H : HaveForms X size g Q.vertices bases) where
  some : PlainMatrix
  some = plain q 0 0 []

  inside : (v : ℕ) → v < Q.vertices → v < length bases
  inside v l = let c = H.counted in omega arith

  count_is : (v : ℕ) (b : PlainMatrix) → v < Q.vertices → dim_at Q (row_counts bases) v ≡ (slice_index_or bases v b).row_count
  count_is v b l = dim_at-below Q (row_counts bases) v l ∙ get_or-map (λ (m : PlainMatrix). m.row_count) bases v b 0 (inside v l)

  rows_are : (v : ℕ) (b : PlainMatrix) → v < Q.vertices → rows_at bases v ≡ (slice_index_or bases v b).rows
  rows_are v b l = get_or-map (λ (m : PlainMatrix). m.rows) bases v b [] (inside v l)

  pub forms_at : (v : ℕ) → v < Q.vertices → IsRowFormOf (g v) (basis_at X bases v)
  forms_at v l =
      let b = slice_index_or bases v some in
      subst (λ (k : ℕ). IsRowFormOf (g v) (as_mat q k (X.dim v) (rows_at bases v))) (sym (count_is v some l))
      (subst (λ (rows : List (List ℕ)). IsRowFormOf (g v) (as_mat q b.row_count (X.dim v) rows)) (sym (rows_are v some l)) (H.each v some l).form)

  pub forms_matrices : AreMatrices q Q.vertices (dim_at Q (row_counts bases)) X.dim bases
  forms_matrices = record {
    counted = H.counted;
    each = λ v b l. record {
      matrix = (H.each v b l).matrix;
      field = ap (λ (m : PlainMatrix). m.field) (H.each v b l).shape;
      row_count = sym (count_is v b l);
      col_count = ap (λ (m : PlainMatrix). m.col_count) (H.each v b l).shape;
    };
  }

  pub forms_subspaces : ((a : ℕ) → a < Q.arrows → Q.source a < Q.vertices) → ((a : ℕ) → a < Q.arrows → Q.target a < Q.vertices) → ((a : ℕ) → a < Q.arrows → IsInSpan (g (Q.target a)) (g (Q.source a) · X.mat a))
      → AreSubspaces X bases
  forms_subspaces s t stable = record {
    matrices = forms_matrices;
    reduced = λ v l. (forms_at v l).reduced;
    stable = λ a l.
        in_span_trans (basis_at X bases (Q.target a)) (g (Q.target a)) (basis_at X bases (Q.source a) · X.mat a) (forms_at (Q.target a) (t a l)).spans
        (in_span_trans (g (Q.target a)) (g (Q.source a) · X.mat a) (basis_at X bases (Q.source a) · X.mat a) (stable a l)
        (in_span_image (g (Q.source a)) (basis_at X bases (Q.source a)) (X.mat a) (forms_at (Q.source a) (s a l)).spanned));
  }

  -- read from a module with these dimensions
  pub forms_read : (dims : List ℕ) → dims ≡ row_counts bases → (v : ℕ) → IsRowFormOf (g v) (as_mat q (dim_at Q dims v) (X.dim v) (rows_at bases v))
  forms_read dims e v = subst (λ (d : List ℕ). IsRowFormOf (g v) (as_mat q (dim_at Q d v) (X.dim v) (rows_at bases v))) (sym e) (elim (cases_lt v Q.vertices) [
    | inl l ↦ forms_at v l
    | inr l ↦ empty_form (g v) (basis_at X bases v) (X.past v l) ((rep_of q Q (record { side = Right; dims = row_counts bases; matrices = [] })).past v l)
  ])

-- The module on the spaces, embedded by their bases.
module _ (h : Header) (a n : Module) (bases : List PlainMatrix) (size : ℕ → ℕ) (g : (v : ℕ) → Mat h.field (size v) ((read h a).dim v)) (small : IsSmallModule h a) (S : IsSubmoduleOn h a n bases)
    (H : HaveForms (read h a) size g (algebra_at a.side h).quiver.vertices bases) where
  abbrev Q : Quiver
  Q = (algebra_at a.side h).quiver

  abbrev pub embedding : Hom (read_beside h a n) (read h a)
  embedding = record { at = family_of (read_beside h a n) (read h a) bases; square = S.hom }

  pub embedding_form : (v : ℕ) → IsRowFormOf (g v) (embedding.at v)
  embedding_form v = forms_read (read h a) size g bases H n.dims S.dims v

  pub embedding_reduced : AreReduced (read_beside h a n) (read h a) embedding.at
  embedding_reduced v = (embedding_form v).reduced

  pub embedding_mono : IsMono embedding
  embedding_mono v x e = right_inverse_injective (embedding.at v) (reduced_independent (embedding.at v) (embedding_reduced v).0 (embedding_reduced v).1) x e

  pub submodule_small : IsSmallModule h n
  submodule_small = record {
    shape = subst (λ (s : Side). IsModule h.field (algebra_at s h).quiver n) (sym S.side) S.shape;
    over = subst (λ (s : Side). IsMod (algebra_at s h) (rep_of h.field (algebra_at s h).quiver n)) (sym S.side) (IsMod-mono (algebra_at a.side h) embedding embedding_mono small.over);
  }

  embedding_shape : IsMap h.field Q n a bases
  embedding_shape = subst (λ (d : List ℕ). AreMatrices h.field Q.vertices (dim_at Q d) (dim_at Q a.dims) bases) (sym S.dims) (forms_matrices (read h a) size g bases H)

  pub embedding_small : IsSmallMap h n a bases
  embedding_small = record {
    shape = subst (λ (s : Side). IsMap h.field (algebra_at s h).quiver n a bases) (sym S.side) embedding_shape;
    holds = record {
      side = S.side;
      hom = subst (λ (s : Side). IsHom (rep_of h.field (algebra_at s h).quiver n) (rep_of h.field (algebra_at s h).quiver a)
          (family_of (rep_of h.field (algebra_at s h).quiver n) (rep_of h.field (algebra_at s h).quiver a) bases)) (sym S.side) S.hom;
    };
  }
