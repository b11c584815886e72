-- Whether a homomorphism splits is decided, by a linear equation for the section or the retraction.
use Rattle.std.proofs.Common.{◌⊎◌, inl, inr, sym, ap, ◌∙◌}
use Rattle.linear_algebra.specs.Field.{Gf}
use Rattle.linear_algebra.specs.Matrix.{Row}
use Rattle.linear_algebra.specs.Rank.{IsInSpan}
use Rattle.linear_algebra.specs.LinearMaps.{IsLinear, matrix_of}
use Rattle.linear_algebra.proofs.LinearMaps.{mul-matrix_of}
use Rattle.linear_algebra.proofs.Solving.{in_span_or_not}
use Rattle.representations.specs.Quiver.{Quiver}
use Rattle.representations.specs.Rep.{Rep}
use Rattle.representations.specs.Hom.{Hom, ◌≫◌, identity}
use Rattle.representations.specs.Module.{IsSplitMono, IsSplitEpi}
use Rattle.representations.specs.HomSpace.{HomBasis}
use Rattle.representations.proofs.HomSpace.{hom_basis, coordinates, hom-coordinates, compose_linear_left, compose_linear_right}

module _ {q : Gf} {Q : Quiver} {X M : Rep q Q} (h : Hom X M) where
  back : HomBasis M X
  back = hom_basis M X

  right_ends : HomBasis M M
  right_ends = hom_basis M M

  left_ends : HomBasis X X
  left_ends = hom_basis X X

  before : Row q back.size → Row q right_ends.size
  before c = coordinates right_ends (back.hom c ≫ h)

  before_linear : IsLinear before
  unfolding before
  before_linear = compose_linear_left back right_ends h

  after : Row q back.size → Row q left_ends.size
  after c = coordinates left_ends (h ≫ back.hom c)

  after_linear : IsLinear after
  unfolding after
  after_linear = compose_linear_right back left_ends h

  section_of : IsInSpan (matrix_of before) (coordinates right_ends (identity M)) → IsSplitEpi h
  unfolding before
  section_of s = record {
    section = back.hom s.by;
    is = sym (hom-coordinates right_ends (back.hom s.by ≫ h)) ∙ ap right_ends.hom (sym (mul-matrix_of before before_linear s.by) ∙ s.is) ∙ hom-coordinates right_ends (identity M);
  }

  of_section : IsSplitEpi h → IsInSpan (matrix_of before) (coordinates right_ends (identity M))
  unfolding before
  of_section s = record {
    by = coordinates back s.section;
    is = mul-matrix_of before before_linear (coordinates back s.section) ∙ ap (λ z. coordinates right_ends (z ≫ h)) (hom-coordinates back s.section) ∙ ap (coordinates right_ends) s.is;
  }

  retraction_of : IsInSpan (matrix_of after) (coordinates left_ends (identity X)) → IsSplitMono h
  unfolding after
  retraction_of s = record {
    retraction = back.hom s.by;
    is = sym (hom-coordinates left_ends (h ≫ back.hom s.by)) ∙ ap left_ends.hom (sym (mul-matrix_of after after_linear s.by) ∙ s.is) ∙ hom-coordinates left_ends (identity X);
  }

  of_retraction : IsSplitMono h → IsInSpan (matrix_of after) (coordinates left_ends (identity X))
  unfolding after
  of_retraction s = record {
    by = coordinates back s.retraction;
    is = mul-matrix_of after after_linear (coordinates back s.retraction) ∙ ap (λ z. coordinates left_ends (h ≫ z)) (hom-coordinates back s.retraction) ∙ ap (coordinates left_ends) s.is;
  }

  pub split_epi_or_not : IsSplitEpi h ⊎ (IsSplitEpi h → ⊥)
  split_epi_or_not = elim (in_span_or_not (matrix_of before) (coordinates right_ends (identity M))) [ inl s ↦ inl (section_of s) | inr n ↦ inr (λ s. n (of_section s)) ]

  pub split_mono_or_not : IsSplitMono h ⊎ (IsSplitMono h → ⊥)
  split_mono_or_not = elim (in_span_or_not (matrix_of after) (coordinates left_ends (identity X))) [ inl s ↦ inl (retraction_of s) | inr n ↦ inr (λ s. n (of_retraction s)) ]
