-- Bases of the homomorphisms by size: rows in reduced row form that are homomorphisms, as many as the unknowns exceed the rank of the equations.
use Rattle.std.proofs.Common.{ℕ, ◌≡◌, ◌<◌, ◌+◌, sym, ap, ◌∙◌, subst}
use Rattle.linear_algebra.specs.Field.{Gf}
use Rattle.linear_algebra.specs.Matrix.{Mat, Row, zeros, ◌·◌}
use Rattle.linear_algebra.specs.LinearMaps.{matrix_of}
use Rattle.linear_algebra.specs.Parts.{row, unit}
use Rattle.linear_algebra.specs.Rank.{IsInSpan}
use Rattle.linear_algebra.specs.Ranks.{rank}
use Rattle.linear_algebra.specs.RowForm.{IsRowReduced}
use Rattle.linear_algebra.proofs.LinearMaps.{mul-matrix_of}
use Rattle.linear_algebra.proofs.MatrixLaws.{mul_assoc_mat, mul_zeros}
use Rattle.linear_algebra.proofs.PartsLaws.{rows_equal, row-mul, row_zeros, unit_mul}
use Rattle.linear_algebra.proofs.RowForm.{reduced_independent}
use Rattle.linear_algebra.proofs.RowFormUnique.{row_form_unique}
use Rattle.linear_algebra.proofs.Solving.{right_inverse_cancels, in_span_by_rows}
use Rattle.linear_algebra.proofs.KernelsBySize.{kernel_by_reduced_rows, reduced_rows_of_kernel}
use Rattle.representations.specs.Quiver.{Quiver}
use Rattle.representations.specs.Rep.{Rep}
use Rattle.representations.specs.HomSpace.{unknowns, flat, defects, equations, HomBasis, IsHomBasis}
use Rattle.representations.proofs.HomSpace.{defects_linear, hom_of, flat-hom_of, hom_defects}

module _ {q : Gf} {Q : Quiver} (X Y : Rep q Q) {n : ℕ} (basis : Mat q n (unknowns X Y)) where
  -- The equations on all rows together.
  equations_kill : ((i : ℕ) → i < n → defects X Y (row i basis) ≡ zeros q 1 (equations X Y)) → basis · matrix_of (defects X Y) ≡ zeros q n (equations X Y)
  equations_kill homs = rows_equal _ _ (λ i l.
      row-mul i basis (matrix_of (defects X Y)) ∙ mul-matrix_of (defects X Y) (defects_linear X Y) (row i basis) ∙ homs i l ∙ sym (row_zeros q n (equations X Y) i))

  module _ (pivot : ℕ → ℕ) (reduced : IsRowReduced basis pivot) where
    pub hom_basis_by_rank : ((i : ℕ) → i < n → defects X Y (row i basis) ≡ zeros q 1 (equations X Y)) → n + rank (matrix_of (defects X Y)) ≡ unknowns X Y → IsHomBasis X Y basis
    hom_basis_by_rank homs size = record {
      homs = λ i l. (hom_of X Y (row i basis) (homs i l), flat-hom_of X Y (row i basis) (homs i l));
      spans = λ f. kernel_by_reduced_rows (matrix_of (defects X Y)) basis pivot reduced (equations_kill homs) size (flat f)
          (mul-matrix_of (defects X Y) (defects_linear X Y) (flat f) ∙ hom_defects X Y f);
      once = λ c d e. right_inverse_cancels basis (reduced_independent basis pivot reduced) c d e;
    }

  module _ (b : IsHomBasis X Y basis) where
    -- Each member of a basis meets the equations, and so does each combination.
    pub member_meets : (i : ℕ) → i < n → defects X Y (row i basis) ≡ zeros q 1 (equations X Y)
    member_meets i l = ap (defects X Y) (sym (b.homs i l).1) ∙ hom_defects X Y (b.homs i l).0

    pub combination_meets : (c : Row q n) → defects X Y (c · basis) ≡ zeros q 1 (equations X Y)
    combination_meets c =
        sym (mul-matrix_of (defects X Y) (defects_linear X Y) (c · basis)) ∙ mul_assoc_mat c basis (matrix_of (defects X Y))
        ∙ ap (λ z. c · z) (equations_kill member_meets) ∙ mul_zeros c

    -- So the size of a basis in reduced row form is what the equations leave,
    pub rank_of_hom_basis : (pivot : ℕ → ℕ) → IsRowReduced basis pivot → n + rank (matrix_of (defects X Y)) ≡ unknowns X Y
    rank_of_hom_basis pivot reduced = reduced_rows_of_kernel (matrix_of (defects X Y)) basis pivot reduced (equations_kill member_meets) (λ x z.
        let e = sym (mul-matrix_of (defects X Y) (defects_linear X Y) x) ∙ z in
        subst (IsInSpan basis) (flat-hom_of X Y x e) (b.spans (hom_of X Y x e)))

    -- and given rows and the basis that carries its rows are the same.
    abbrev pub hom_basis_of_rows : (pivot : ℕ → ℕ) → IsRowReduced basis pivot → HomBasis X Y
    hom_basis_of_rows pivot reduced = record {
      size = n;
      basis = basis;
      pivot = pivot;
      reduced = reduced;
      hom = λ c. hom_of X Y (c · basis) (combination_meets c);
      hom_flat = λ c. flat-hom_of X Y (c · basis) (combination_meets c);
      spans = b.spans;
      once = b.once;
    }

pub rows_of_hom_basis : {q : Gf} {Q : Quiver} {X Y : Rep q Q} (B : HomBasis X Y) → IsHomBasis X Y B.basis
rows_of_hom_basis {q} B = record {
  homs = λ i l. (B.hom (unit q B.size i), B.hom_flat (unit q B.size i) ∙ unit_mul i B.basis);
  spans = B.spans;
  once = B.once;
}

-- Two bases in reduced row form are equal.
module _ {q : Gf} {Q : Quiver} (X Y : Rep q Q) where
  spans_rows : {m n : ℕ} (a : Mat q m (unknowns X Y)) (b : Mat q n (unknowns X Y)) → IsHomBasis X Y a → IsHomBasis X Y b → IsInSpan a b
  spans_rows a b r s = in_span_by_rows a b (λ i l. subst (IsInSpan a) (s.homs i l).1 (r.spans (s.homs i l).0))

  pub hom_basis_unique : {m n : ℕ} (a : Mat q m (unknowns X Y)) (b : Mat q n (unknowns X Y)) (p r : ℕ → ℕ) → IsRowReduced a p → IsRowReduced b r → IsHomBasis X Y a → IsHomBasis X Y b → (m ≡ n) × ((i j : ℕ) → a.at i j ≡ b.at i j)
  hom_basis_unique a b p r d e s t = row_form_unique a b p r d e (spans_rows b a t s) (spans_rows a b s t)
