-- The module on spaces of rows, from the matrices of its arrows.
use Rattle.std.proofs.Common.{ℕ, ◌<◌, ◌≤◌, ◌≡◌, ◌+◌, List, [], ◌∷◌, ◌++◌, length, sym, ap, ◌∙◌, inl, inr, refl, arith, subst}
use Rattle.std.specs.Prelude.{slice_index}
use Rattle.std.proofs.lemmas.Bool.{cases_lt}
use Rattle.std.proofs.lemmas.List.{length-map}
use Rattle.linear_algebra.specs.Field.{Gf}
use Rattle.linear_algebra.specs.Matrix.{Mat, Mat-eq_below, ◌·◌}
use Rattle.linear_algebra.specs.BlockFamilies.{total}
use Rattle.linear_algebra.specs.Typed.{as_mat}
use Rattle.linear_algebra.proofs.RowForm.{reduced_independent}
use Rattle.linear_algebra.proofs.Steinitz.{steinitz}
use Rattle.fp_linear.specs.Matrix.{PlainMatrix, plain}
use Rattle.representations.specs.Quiver.{Quiver}
use Rattle.representations.specs.Rep.{Rep}
use Rattle.path_algebra.specs.declared.Header.{Header}
use Rattle.module_types.specs.declared.Module.{Module}
use Rattle.module_types.specs.Algebras.{algebra_at}
use Rattle.module_types.specs.Readings.{dim_at, rep_of, read, read_beside, family_of, IsHom}
use Rattle.module_types.specs.Shapes.{IsModule, dimension}
use Rattle.module_types.proofs.Written.{dim_at-below}
use Rattle.module_operations.specs.VertexSpaces.{row_counts, AreSubspaces, IsSubmoduleOn, IsRestriction, HaveRestrictions, basis_at, space_dim}
use Rattle.module_operations.proofs.Counts.{total_le, each_pushed, counted_pushed}
use Rattle.module_operations.proofs.ListedMatrices.{rows_listed}

-- Matrices without rows are equal.
pub no_rows_equal : {q : Gf} {m n : ℕ} (a b : Mat q m n) → m ≡ 0 → a ≡ b
no_rows_equal a b e = Mat-eq_below a b (λ i j l k. absurd (omega arith))

-- A list of dimensions that are nowhere larger has no larger sum.
pub dimension_le : (Q : Quiver) (d e : List ℕ) → length d ≡ Q.vertices → length e ≡ Q.vertices → ((v : ℕ) → v < Q.vertices → dim_at Q d v ≤ dim_at Q e v) → dimension d ≤ dimension e
dimension_le Q d e c f h =
    let below : total Q.vertices (slice_index d) ≤ total Q.vertices (slice_index e) = total_le Q.vertices (slice_index d) (slice_index e) (λ v l.
    let p = dim_at-below Q d v l in let r = dim_at-below Q e v l in let x = h v l in omega arith) in
    let left : dimension d ≡ total Q.vertices (slice_index d) = ap (λ n. total n (slice_index d)) c in
    let right : dimension e ≡ total Q.vertices (slice_index e) = ap (λ n. total n (slice_index e)) f in
    omega arith

module _ (h : Header) (a : Module) (shape : IsModule h.field (algebra_at a.side h).quiver a) (bases : List PlainMatrix) (S : AreSubspaces (read h a) bases) (matrices : List PlainMatrix)
    (R : HaveRestrictions (read h a) bases (algebra_at a.side h).quiver.arrows matrices) where
  abbrev Q : Quiver
  Q = (algebra_at a.side h).quiver

  abbrev on_spaces : Module
  on_spaces = record { side = a.side; dims = row_counts bases; matrices = matrices }

  counted : length (row_counts bases) ≡ Q.vertices
  counted = length-map bases _ ∙ S.matrices.counted

  few : (v : ℕ) → v < Q.vertices → space_dim (read h a) bases v ≤ dim_at Q a.dims v
  few v l = let r = S.reduced v l in let i = reduced_independent (basis_at (read h a) bases v) r.0 r.1 in steinitz (basis_at (read h a) bases v) i.inverse i.is

  pub on_spaces_shape : IsModule h.field Q on_spaces
  on_spaces_shape = record {
    counted = counted;
    small = let b = dimension_le Q (row_counts bases) a.dims counted shape.counted few in let s = shape.small in omega arith;
    matrices = record { counted = R.counted; each = λ r m l. (R.each r m l).shape };
  }

  pub on_spaces_hom : IsHom (read_beside h a on_spaces) (read h a) (family_of (read_beside h a on_spaces) (read h a) bases)
  on_spaces_hom r = elim (cases_lt r Q.arrows) [
    | inl l ↦ along r l (plain h.field 0 0 [])
    | inr l ↦ no_rows_equal _ _ ((read_beside h a on_spaces).past (Q.source r) (Q.source_past r l))
  ]
    where
      along : (r : ℕ) → r < Q.arrows → PlainMatrix → (rep_of h.field Q on_spaces).mat r · basis_at (read h a) bases (Q.target r) ≡ basis_at (read h a) bases (Q.source r) · (read h a).mat r
      along r l m =
          ap (λ rows. as_mat h.field (space_dim (read h a) bases (Q.source r)) (space_dim (read h a) bases (Q.target r)) rows · basis_at (read h a) bases (Q.target r))
          (rows_listed h.field Q.arrows _ _ matrices on_spaces_shape.matrices r m l)
          ∙ (R.each r m l).commutes

  pub on_spaces_is : (dims : List ℕ) → dims ≡ row_counts bases → IsSubmoduleOn h a (record { side = a.side; dims = dims; matrices = matrices }) bases
  on_spaces_is dims e = subst (λ (d : List ℕ). IsSubmoduleOn h a (record { side = a.side; dims = d; matrices = matrices }) bases) (sym e)
      (record { side = refl; dims = refl; shape = on_spaces_shape; hom = on_spaces_hom })

pub HaveRestrictions-none : {q : Gf} {Q : Quiver} (X : Rep q Q) (bases : List PlainMatrix) → HaveRestrictions X bases 0 []
HaveRestrictions-none X bases = record { counted = refl; each = λ a m l. absurd (omega arith) }

pub HaveRestrictions-more : {q : Gf} {Q : Quiver} (X : Rep q Q) (bases : List PlainMatrix) (k : ℕ) (m : PlainMatrix) (matrices : List PlainMatrix) → IsRestriction X bases k m → HaveRestrictions X bases k matrices
    → HaveRestrictions X bases (k + 1) (matrices ++ m ∷ [])
HaveRestrictions-more X bases k m matrices r h = record {
  counted = counted_pushed k matrices m h.counted;
  each = each_pushed (IsRestriction X bases) k matrices m h.counted h.each r;
}
