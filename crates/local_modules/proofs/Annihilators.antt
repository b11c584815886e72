-- The elements of a matrix algebra that take a stable space of rows at a vertex to zero are a two-sided ideal.
use Rattle.std.proofs.Common.{ℕ, ◌<◌, ◌≡◌, sym, ap, ◌∙◌, subst}
use Rattle.linear_algebra.specs.Field.{Gf}
use Rattle.linear_algebra.specs.Matrix.{Mat, Row, ◌·◌}
use Rattle.linear_algebra.specs.Parts.{unit}
use Rattle.linear_algebra.specs.Rank.{IsInSpan}
use Rattle.linear_algebra.proofs.Families.{mul_combine, combine_in_span}
use Rattle.linear_algebra.proofs.LinearMaps.{linear_combine, as_units}
use Rattle.linear_algebra.proofs.MatrixLaws.{mul_assoc_mat, mul_zeros, zeros_mul}
use Rattle.representations.specs.Quiver.{Quiver}
use Rattle.representations.specs.Rep.{Rep}
use Rattle.representations.proofs.Homs.{same-at, compose-at}
use Rattle.local_modules.specs.Ideal.{IsTwoSided}
use Rattle.local_modules.specs.Annihilator.{IsStableAt, IsAnnihilatorAt}
use Rattle.local_modules.specs.MatrixAlgebra.{MatrixAlgebra, algebra_of}
use Rattle.local_modules.proofs.VertexPowers.{at_linear}

module _ {q : Gf} {Q : Quiver} {X : Rep q Q} (M : MatrixAlgebra X) (v : ℕ) {k l : ℕ} (W : Mat q k (X.dim v)) (I : Mat q l M.size) (stable : IsStableAt M v W) (a : IsAnnihilatorAt M v W I) where
  product_at : (x y : Row q M.size) → W · (M.element (M.composite x y)).at v ≡ (W · (M.element x).at v) · (M.element y).at v
  product_at x y = ap (λ z. W · z) (same-at (M.composite_is x y) v ∙ compose-at (M.element x) (M.element y) v) ∙ sym (mul_assoc_mat W ((M.element x).at v) ((M.element y).at v))

  pub annihilator_two_sided : IsTwoSided (algebra_of M) I
  annihilator_two_sided = record {
    left = λ b x s. a.all (M.composite b x)
        (product_at b x ∙ ap (λ z. z · (M.element x).at v) (sym (stable b).is) ∙ mul_assoc_mat (stable b).by W ((M.element x).at v) ∙ ap (λ z. (stable b).by · z) (a.kills x s) ∙ mul_zeros (stable b).by);
    right = λ b x s. a.all (M.composite x b) (product_at x b ∙ ap (λ z. z · (M.element b).at v) (a.kills x s) ∙ zeros_mul ((M.element b).at v));
  }

-- It is enough that the basis takes W to itself.
pub stable_by_basis : {q : Gf} {Q : Quiver} {X : Rep q Q} (M : MatrixAlgebra X) (v : ℕ) {k : ℕ} (W : Mat q k (X.dim v))
    → ((i : ℕ) → i < M.size → IsInSpan W (W · (M.element (unit q M.size i)).at v)) → IsStableAt M v W
stable_by_basis {q} M v W h x =
    subst (IsInSpan W) (sym (mul_combine M.size (x.at 0) W (λ i. (M.element (unit q M.size i)).at v)) ∙ ap (λ z. W · z)
    (sym (linear_combine (λ (y : Row q M.size). (M.element y).at v) (at_linear M v) M.size (x.at 0) (unit q M.size)) ∙ ap (λ z. (M.element z).at v) (sym (as_units x))))
    (combine_in_span W M.size (x.at 0) (λ i. W · (M.element (unit q M.size i)).at v) h)
