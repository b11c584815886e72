-- The value of a functional is linear, so the values on the rows of an ideal are those of a basis, combined.
use Rattle.std.proofs.Common.{ℕ, ◌≡◌, List, sym, ap, ◌∙◌}
use Rattle.linear_algebra.specs.Field.{Gf}
use Rattle.linear_algebra.specs.Matrix.{Mat, Row, ◌⊞◌, ◌⊙◌, ◌·◌}
use Rattle.linear_algebra.specs.Parts.{row}
use Rattle.linear_algebra.specs.LinearMaps.{IsLinear, matrix_of}
use Rattle.linear_algebra.proofs.LinearMaps.{mul-matrix_of}
use Rattle.linear_algebra.proofs.MatrixLaws.{add_mul_mat, mul_add_mat, mul_scale, scale_mul, mul_assoc_mat}
use Rattle.linear_algebra.proofs.PartsLaws.{row-mul}
use Rattle.linear_algebra.proofs.BlockFamilies.{sum_all-same, sum_all-add, sum_all-scale}
use Rattle.representations.specs.Quiver.{BoundQuiver}
use Rattle.representations.specs.Rep.{Rep}
use Rattle.representations.specs.HomSpace.{unknowns, unflat}
use Rattle.representations.proofs.HomSpace.{unflat-sum, unflat-scale}
use Rattle.projectives.specs.TwoSided.{TwoSided}
use Rattle.module_types.specs.TermMatrices.{count, vertex, generator_row}
use Rattle.module_types.specs.Presentations.{Presentation, part, value_on}
use Rattle.claim_conditions.specs.SequenceConditions.{value_at}

module _ {q : Gf} {A : BoundQuiver} (T : TwoSided q A) (p : Presentation) (M : Rep q A.quiver) (functional : List ℕ) where
  abbrev at_row : Row q (unknowns M M) → Mat q 1 1
  at_row x = value_on T M p.cover functional (unflat M M x)

  abbrev term : Row q (unknowns M M) → ℕ → Mat q 1 1
  term x j = generator_row M p.cover j · unflat M M x (vertex p.cover j) · part T M p.cover functional j

  linear : IsLinear at_row
  linear = record {
    sum = λ x y. sum_all-same (count p.cover) (term (x ⊞ y)) (λ j. term x j ⊞ term y j) (λ j l.
        ap (λ z. generator_row M p.cover j · z · part T M p.cover functional j) (unflat-sum M M x y (vertex p.cover j))
        ∙ ap (λ z. z · part T M p.cover functional j) (mul_add_mat (generator_row M p.cover j) (unflat M M x (vertex p.cover j)) (unflat M M y (vertex p.cover j)))
        ∙ add_mul_mat (generator_row M p.cover j · unflat M M x (vertex p.cover j)) (generator_row M p.cover j · unflat M M y (vertex p.cover j)) (part T M p.cover functional j))
        ∙ sum_all-add (count p.cover) (term x) (term y);
    multiple = λ c x. sum_all-same (count p.cover) (term (c ⊙ x)) (λ j. c ⊙ term x j) (λ j l.
        ap (λ z. generator_row M p.cover j · z · part T M p.cover functional j) (unflat-scale M M c x (vertex p.cover j))
        ∙ ap (λ z. z · part T M p.cover functional j) (mul_scale c (generator_row M p.cover j) (unflat M M x (vertex p.cover j)))
        ∙ scale_mul c (generator_row M p.cover j · unflat M M x (vertex p.cover j)) (part T M p.cover functional j))
        ∙ sym (sum_all-scale c (count p.cover) (term x));
  }

  abbrev pub weights : Mat q (unknowns M M) 1
  weights = matrix_of at_row

  weighted : (x : Row q (unknowns M M)) → x · weights ≡ at_row x
  weighted x = mul-matrix_of at_row linear x

  module _ {n r : ℕ} (basis : Mat q n (unknowns M M)) (ideal : Mat q r n) where
    pub value_of_member : (i : ℕ) → row i (basis · weights) ≡ value_at T p M functional i basis
    value_of_member i = row-mul i basis weights ∙ weighted (row i basis)

    pub value_of_ideal : (i : ℕ) → row i ideal · (basis · weights) ≡ value_at T p M functional i (ideal · basis)
    value_of_ideal i = sym (mul_assoc_mat (row i ideal) basis weights) ∙ ap (λ z. z · weights) (sym (row-mul i ideal basis)) ∙ weighted (row i (ideal · basis))
