-- The module on quotients of spaces of rows, from the matrices of its arrows.
use Rattle.std.proofs.Common.{ℕ, ◌<◌, ◌≤◌, ◌≡◌, ◌+◌, List, [], ◌∷◌, ◌++◌, length, sym, ap, ◌∙◌, inl, inr, refl, arith, subst}
use Rattle.std.proofs.lemmas.Bool.{cases_lt}
use Rattle.std.proofs.lemmas.List.{length-map}
use Rattle.linear_algebra.specs.Matrix.{◌·◌}
use Rattle.linear_algebra.specs.Field.{Gf}
use Rattle.linear_algebra.specs.Typed.{as_mat}
use Rattle.linear_algebra.proofs.KernelsBySize.{coreduced_surjective}
use Rattle.linear_algebra.proofs.Steinitz.{steinitz}
use Rattle.fp_linear.specs.Matrix.{PlainMatrix, plain}
use Rattle.representations.specs.Quiver.{Quiver}
use Rattle.representations.specs.Rep.{Rep}
use Rattle.path_algebra.specs.declared.Header.{Header}
use Rattle.module_types.specs.declared.Module.{Module}
use Rattle.module_types.specs.Algebras.{algebra_at}
use Rattle.module_types.specs.Readings.{dim_at, rep_of, read, read_beside, family_of, IsHom}
use Rattle.module_types.specs.Shapes.{IsModule}
use Rattle.module_operations.specs.VertexSpaces.{col_counts, AreQuotients, IsQuotientOn, IsInduced, HaveInduced, projection_at, quotient_dim}
use Rattle.module_operations.proofs.Counts.{each_pushed, counted_pushed}
use Rattle.module_operations.proofs.ListedMatrices.{rows_listed}
use Rattle.module_operations.proofs.OnSpaces.{no_rows_equal, dimension_le}

module _ (h : Header) (a : Module) (shape : IsModule h.field (algebra_at a.side h).quiver a) (projections : List PlainMatrix) (S : AreQuotients (read h a) projections) (matrices : List PlainMatrix)
    (R : HaveInduced (read h a) projections (algebra_at a.side h).quiver.arrows matrices) where
  abbrev Q : Quiver
  Q = (algebra_at a.side h).quiver

  abbrev on_quotients : Module
  on_quotients = record { side = a.side; dims = col_counts projections; matrices = matrices }

  counted : length (col_counts projections) ≡ Q.vertices
  counted = length-map projections _ ∙ S.matrices.counted

  few : (v : ℕ) → v < Q.vertices → quotient_dim (read h a) projections v ≤ dim_at Q a.dims v
  few v l = let r = S.coreduced v l in let i = coreduced_surjective (projection_at (read h a) projections v) r.0 r.1 in steinitz i.inverse (projection_at (read h a) projections v) i.is

  pub on_quotients_shape : IsModule h.field Q on_quotients
  on_quotients_shape = record {
    counted = counted;
    small = let b = dimension_le Q (col_counts projections) a.dims counted shape.counted few in let s = shape.small in omega arith;
    matrices = record { counted = R.counted; each = λ r m l. (R.each r m l).shape };
  }

  pub on_quotients_hom : IsHom (read h a) (read_beside h a on_quotients) (family_of (read h a) (read_beside h a on_quotients) projections)
  on_quotients_hom r = elim (cases_lt r Q.arrows) [
    | inl l ↦ along r l (plain h.field 0 0 [])
    | inr l ↦ no_rows_equal _ _ ((read h a).past (Q.source r) (Q.source_past r l))
  ]
    where
      along : (r : ℕ) → r < Q.arrows → PlainMatrix → (read h a).mat r · projection_at (read h a) projections (Q.target r) ≡ projection_at (read h a) projections (Q.source r) · (rep_of h.field Q on_quotients).mat r
      along r l m =
          (R.each r m l).commutes
          ∙ ap (λ rows. projection_at (read h a) projections (Q.source r) · as_mat h.field (quotient_dim (read h a) projections (Q.source r)) (quotient_dim (read h a) projections (Q.target r)) rows)
          (sym (rows_listed h.field Q.arrows _ _ matrices on_quotients_shape.matrices r m l))

  pub on_quotients_is : (dims : List ℕ) → dims ≡ col_counts projections → IsQuotientOn h a (record { side = a.side; dims = dims; matrices = matrices }) projections
  on_quotients_is dims e = subst (λ (d : List ℕ). IsQuotientOn h a (record { side = a.side; dims = d; matrices = matrices }) projections) (sym e)
      (record { side = refl; dims = refl; shape = on_quotients_shape; hom = on_quotients_hom })

pub HaveInduced-none : {q : Gf} {Q : Quiver} (X : Rep q Q) (projections : List PlainMatrix) → HaveInduced X projections 0 []
HaveInduced-none X projections = record { counted = refl; each = λ a m l. absurd (omega arith) }

pub HaveInduced-more : {q : Gf} {Q : Quiver} (X : Rep q Q) (projections : List PlainMatrix) (k : ℕ) (m : PlainMatrix) (matrices : List PlainMatrix) → IsInduced X projections k m → HaveInduced X projections k matrices
    → HaveInduced X projections (k + 1) (matrices ++ m ∷ [])
HaveInduced-more X projections k m matrices r h = record {
  counted = counted_pushed k matrices m h.counted;
  each = each_pushed (IsInduced X projections) k matrices m h.counted h.each r;
}
